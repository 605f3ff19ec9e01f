-- What the code holds while it works out the choice.
use Rattle.std.specs.Prelude.{ℕ, ◌<◌, ◌≤◌, ◌≡◌, Bool, true, List, Option, Result, Ok, Err, length, get_or, if◌then◌else◌}
use Rattle.laws.specs.Trials.{answers, refuses}
use Rattle.laws.specs.Upwards.{upwards, each}
use Rattle.sets.specs.Sets.{In, member}
use Rattle.night.specs.declared.Header.{Header}
use Rattle.night.specs.declared.refusals.Refusal.{Refusal}
use Rattle.night.specs.Refusals.{number_of}
use Rattle.night.specs.Night.{Night, node_of}
use Rattle.night.specs.Promised.{Promised}
use Rattle.layout.specs.Held.{night_held}
use Rattle.model.specs.Choice.{Admissible, handed}
use Rattle.model.specs.declared.Best.{Best}
use Rattle.model.specs.Dp.{subjects_of, least_of, lowest_of, handed_on, no_row, row_entry, row_step, cost_rows, give_child, give_both, give_down}
use Rattle.verdicts.specs.Refusals.{choosing_of}
use Rattle.eligible.specs.declared.Built.{Built}
use Rattle.eligible.specs.Answers.{BuiltFor}
use Rattle.choosing.specs.declared.subjects.Subjects.{Subjects}

-- the subjects of every node
abbrev pub HasSets : Night → List ℕ → Type 0
HasSets N sets = sets ≡ each 64 (subjects_of N)

-- a checked file with the subjects of every node
pub record Ready (w : Subjects) : Type 0 where
  pub sound : Promised (night_held w.file)
  pub has : HasSets (night_held w.file) w.sets

-- what both choices begin with: 1 to 11 and 17 pass, and there are the subjects of every node and what the plan is made of; or they refuse
abbrev pub OpenSays : List ℕ → Result (Subjects × Built) Refusal → Type 0
OpenSays s (Ok p) =
    (choosing_of s ≡ answers p.0.file.header) × (p.0.file.bytes.now ≡ s) × Ready p.0 × BuiltFor (night_held p.0.file) p.1
OpenSays s (Err r) = choosing_of s ≡ refuses (number_of r.reason) r.place

-- the rows of the first i nodes, and rows with no costs after them
pub record HasRows (N : Night) (i : ℕ) (rows : List (List ℕ)) : Type 0 where
  pub long : length rows ≡ 64
  pub held : (k : ℕ) → get_or rows k no_row ≡ get_or (upwards (row_step N) i) k no_row

-- what any subject of the set costs by its row, handed over, is far less than a number of 64 bits holds
abbrev pub Fits : Night → List ℕ → ℕ → ℕ → ℕ → Type 0
Fits N row among size s = (t : ℕ) → t < 16 → In t among → handed_on N row size s t ≤ 129064000000

-- what the code reads of a search: zeros where it found none
abbrev pub Finds : Option Best → Best → Type 0
Finds found b = (b.least ≡ least_of found) × (b.lowest ≡ lowest_of found)

-- a subject of the night for each node, and 0 past the last node
pub record Given (N : Night) (c : List ℕ) : Type 0 where
  pub long : length c ≡ 64
  pub there : (j : ℕ) → get_or c j 0 < N.header.subjects
  pub past : (j : ℕ) → N.header.nodes ≤ j → get_or c j 0 ≡ 0

-- a search among the subjects of child k, by its row: costs that fit, for subject s of the parent
abbrev pub Searched : Night → List (List ℕ) → ℕ → ℕ → Type 0
Searched N rows k s = (k < 64) × (length rows ≡ 64) × Fits N (get_or rows k no_row) (subjects_of N k) (node_of N k).size s

-- the same of a child that may not be used
abbrev pub SearchedIf : Night → Bool → List (List ℕ) → ℕ → ℕ → Type 0
SearchedIf N used rows k s = used ≡ true → Searched N rows k s

-- node i's row is filled from those of the nodes before it; and its entry for subject s
abbrev pub Filling : Subjects → List (List ℕ) → ℕ → Type 0
Filling w rows i = Ready w × (i < w.file.header.nodes) × HasRows (night_held w.file) i rows

abbrev pub FillingAt : Subjects → List (List ℕ) → ℕ → ℕ → Type 0
FillingAt w rows i s = Ready w × (i < w.file.header.nodes) × HasRows (night_held w.file) i rows × (s < w.file.header.subjects)

-- the entry of node i's row at subject s, 0 for a subject that may not run it
abbrev pub entry_at : Night → ℕ → ℕ → ℕ
entry_at N i s = if member (subjects_of N i) s then row_entry N (upwards (row_step N) i) i s else 0

-- an offered choice from the candidates, and node i
abbrev pub Offering : Night → Header → List ℕ → ℕ → Type 0
Offering N h offer i = Promised N × Admissible N (λ j. get_or offer j 0) × (length offer ≡ h.nodes) × (i < h.nodes)

-- and its child k, where it is used
abbrev pub OfferingChild : Night → Header → List ℕ → ℕ → Bool → ℕ → Type 0
OfferingChild N h offer i used k =
    Promised N × Admissible N (λ j. get_or offer j 0) × (length offer ≡ h.nodes) × (i < h.nodes) × (used ≡ true → k < h.nodes)

-- what is paid for handing over from a child that may not be used
abbrev pub handed_if : Night → List ℕ → ℕ → Bool → ℕ → ℕ
handed_if N offer i used k = if used then handed N (λ j. get_or offer j 0) i k else 0

-- all rows, and the subjects given so far
abbrev pub Giving : Subjects → List (List ℕ) → List ℕ → Type 0
Giving w rows chosen = Ready w × HasRows (night_held w.file) w.file.header.nodes rows × Given (night_held w.file) chosen

-- and node i
abbrev pub GivingAt : Subjects → List (List ℕ) → ℕ → List ℕ → Type 0
GivingAt w rows i chosen = Giving w rows chosen × (i < w.file.header.nodes)

-- and its child k, where it is used
abbrev pub GivingChild : Subjects → List (List ℕ) → ℕ → Bool → ℕ → List ℕ → Type 0
GivingChild w rows i used k chosen = Giving w rows chosen × (i < w.file.header.nodes) × (used ≡ true → k < w.file.header.nodes)

-- the subjects once a child that may not be used has its own
abbrev pub given_child : Night → ℕ → Bool → ℕ → List ℕ → List ℕ
given_child N i used k chosen = if used then give_child N (cost_rows N) i k chosen else chosen

-- once both children of node i have theirs, and once all nodes have
abbrev pub GivesBoth : Night → ℕ → List ℕ → List ℕ → Type 0
GivesBoth N i chosen r = (r ≡ give_both N (cost_rows N) i chosen) × Given N r

abbrev pub GivesDown : Night → Header → List ℕ → List ℕ → Type 0
GivesDown N h start r = (r ≡ give_down N (cost_rows N) h.nodes start) × Given N r
