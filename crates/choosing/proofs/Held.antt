-- The rows and the subjects given so far, as the code holds them.
use Prim.Native.Nat.{ℕ, zero, suc, ◌+◌, ◌-◌, ◌<◌, ◌≤◌}
use mathlib.Core.Path.{◌≡◌, refl, sym, ap, ◌∙◌}
use mathlib.Core.Bool.{Bool, true, false}
use mathlib.Core.List.{List, []}
use native.Mathlib.Nat.{zero-mul}
use native.Mathlib.Omega.{arith}
use lib.Dec.{ltb, eqb}
use lib.ListN.{length, get_or, set, replicate, length-set, length-replicate}
use lib.Seq.{get_or-set_same, get_or-set_other}
use borrow.Author.Tests.{ltb-true, ltb-false, eqb-true, eqb-false}
use Rattle.std.specs.Prelude.{Option, Some, None, unwrap_or, if◌then◌else◌}
use Rattle.laws.specs.Upwards.{upwards, each}
use Rattle.laws.proofs.Upwards.{Agrees, agrees_none, agrees_more, each_at, each_past}
use Rattle.sets.specs.Sets.{In, member}
use Rattle.sets.proofs.Members.{member_in}
use Rattle.night.specs.declared.Node.{Node}
use Rattle.night.specs.Night.{Night, node_of, step_price}
use Rattle.night.specs.Kinds.{uses_left, uses_right}
use Rattle.night.specs.Promised.{Promised}
use Rattle.model.specs.declared.Best.{Best}
use Rattle.model.specs.Dp.{subjects_of, least_of, lowest_of, better, handed_on, best_of, no_row, best_child, row_entry, row_step, cost_rows, give_child, give_both, give_down, best_last}
use Rattle.model.proofs.CostRows.{subject-there}
use Rattle.model.proofs.Follows.{down_more}
use Rattle.model.proofs.Lowest.{best_none, best_more}
use Rattle.model.proofs.Weight.{best_most, row_most, offer_most}
use Rattle.choosing.specs.Held.{HasSets, HasRows, Fits, Finds, Searched, Given}
use Rattle.choosing.proofs.Sets.{set_at, same_default}

-- child k as it is read: its row, its set and its size
module _ (N : Night) (rows : List (List ℕ)) (sets : List ℕ) (k s : ℕ) (v : Node) (l : k < length rows) (few : k < 64) (has : HasSets N sets) (read : v ≡ node_of N k) where
  pub child_fits : Fits N (get_or rows k no_row) (subjects_of N k) (node_of N k).size s → Fits N (get_or rows k []) (get_or sets k 0) v.size s
  child_fits fits = rw (set_at N sets k has few, same_default rows k [] no_row l, read) fits

  pub child_made : best_of N (get_or rows k []) (get_or sets k 0) v.size s 16 ≡ best_child N rows k s
  unfolding best_child
  child_made = rw (set_at N sets k has few, same_default rows k [] no_row l, read) refl

-- rows that are held serve as those that are worked out
module _ (N : Night) (i : ℕ) (rows : List (List ℕ)) (has : HasRows N i rows) where
  pub child_held : (k s : ℕ) → best_child N rows k s ≡ best_child N (upwards (row_step N) i) k s
  unfolding best_child
  child_held k s = ap (λ (r : List ℕ). best_of N r (subjects_of N k) (node_of N k).size s 16) (has.held k)

  module _ (sound : Promised N) (l : i ≤ N.header.nodes) (k : ℕ) (h : k < N.header.nodes) where
    pub fits_held : (s : ℕ) → s < N.header.subjects → Fits N (get_or rows k no_row) (subjects_of N k) (node_of N k).size s
    fits_held s p t g e = rw (has.held k) (offer_most N sound i k s t l h p (subject-there N sound k h t e))

    pub searched : k < 64 → (s : ℕ) → s < N.header.subjects → Searched N rows k s
    searched few s p = (few, has.long, fits_held s p)

    -- nothing is handed on
    pub fits_alone : Fits N (get_or rows k no_row) (subjects_of N k) 0 0
    unfolding handed_on
    fits_alone t g e = rw (has.held k, zero-mul) (omega (arith, row_most N sound i k t l))

  -- a child of node i is lower
  pub lower_searched : Promised N → i < N.header.nodes → (k : ℕ) → k < i → (s : ℕ) → s < N.header.subjects → Searched N rows k s
  lower_searched sound l k lower s p = searched sound (omega arith) k (omega arith) (omega (arith, sound.counts.nodes_most)) s p

  -- node i's entry from its parts
  pub entry_made : (s : ℕ) (v : Node) → v ≡ node_of N i → (a b : Bool) → a ≡ uses_left v.kind → b ≡ uses_right v.kind → (p x y : ℕ)
      → p ≡ (if eqb (node_of N i).kind 0 then 0 else step_price N i s)
      → x ≡ (if a then least_of (best_child N rows v.left s) else 0)
      → y ≡ (if b then least_of (best_child N rows v.right s) else 0)
      → p + x + y ≡ row_entry N (upwards (row_step N) i) i s
  unfolding row_entry
  entry_made s v read a b e f p x y g m n = rw (g, m, n, e, f, child_held v.left s, child_held v.right s, read) refl

-- a loop that works the rows out
pub rows_none : (N : Night) → HasRows N 0 (replicate 64 no_row)
rows_none N = record { long = refl; held = agrees_none (row_step N) no_row 64 }

pub rows_more : (N : Night) (i : ℕ) (rows : List (List ℕ)) (row : List ℕ) → HasRows N i rows → i < 64 → row ≡ row_step N (upwards (row_step N) i) i → HasRows N (i + 1) (set rows i row)
rows_more N i rows row has l e =
    record { long = length-set rows i row ∙ has.long; held = agrees_more (row_step N) no_row i row rows (rw has.long l) has.held e }

-- a subject that has no entry leaves its place in a row as it is
pub entry_none : (f : ℕ → ℕ) (i : ℕ) (row : List ℕ) → Agrees (λ before. f) 0 i row → f i ≡ 0 → Agrees (λ before. f) 0 (i + 1) row
entry_none f i row a z k = a k ∙ go (ltb k i) (eqb k i) refl refl
  where
    go : (b x : Bool) → ltb k i ≡ b → eqb k i ≡ x → get_or (each i f) k 0 ≡ get_or (each (i + 1) f) k 0
    go true x e q =
        let l : k < i = ltb-true k i e in
        each_at f 0 k i l ∙ sym (each_at f 0 k (i + 1) (omega arith))
    go false true e q =
        let same : k ≡ i = eqb-true k i q in
        each_past f 0 k i (ltb-false k i e) ∙ sym (each_at f 0 k (i + 1) (omega arith) ∙ rw same z)
    go false false e q = each_past f 0 k i (ltb-false k i e) ∙ sym (each_past f 0 k (i + 1) (omega (arith, ltb-false k i e, eqb-false k i q)))

-- a turn from the last node down
pub down_turn : (N : Night) (rows : List (List ℕ)) (m : ℕ) (c d : List ℕ) → 0 < m → d ≡ give_both N rows (m - 1) c → give_down N rows (m - 1) d ≡ give_down N rows m c
down_turn N rows m c d l e =
    let same : m - 1 + 1 ≡ m = omega arith in
    rw e (sym (down_more N rows (m - 1) c) ∙ rw same refl)

-- the last node's row and set
module _ (N : Night) (sound : Promised N) (rows : List (List ℕ)) (sets : List ℕ) (all : HasRows N N.header.nodes rows) (has : HasSets N sets) where
  last : N.header.nodes - 1 < N.header.nodes
  last = omega (arith, sound.counts.nodes_some)

  pub last_few : N.header.nodes - 1 < 64
  last_few = omega (arith, last, sound.counts.nodes_most)

  pub last_long : N.header.nodes - 1 < length rows
  last_long = rw all.long last_few

  pub last_fits : Fits N (get_or rows (N.header.nodes - 1) []) (get_or sets (N.header.nodes - 1) 0) 0 0
  last_fits =
      rw (set_at N sets _ has last_few, same_default rows (N.header.nodes - 1) [] no_row last_long)
      (fits_alone N N.header.nodes rows all sound (omega arith) (N.header.nodes - 1) last)

  pub last_made : best_of N (get_or rows (N.header.nodes - 1) []) (get_or sets (N.header.nodes - 1) 0) 0 0 16 ≡ best_last N (cost_rows N)
  unfolding best_last cost_rows
  last_made = rw (set_at N sets _ has last_few, same_default rows (N.header.nodes - 1) [] no_row last_long, all.held (N.header.nodes - 1)) refl

  -- a child's subject from its parent's
  pub child_given : (c : List ℕ) (i k : ℕ) (b : ℕ) → b ≡ lowest_of (best_child N rows k (get_or c i 0)) → set c k b ≡ give_child N (cost_rows N) i k c
  unfolding give_child cost_rows
  child_given c i k b e = rw (e, child_held N N.header.nodes rows all k (get_or c i 0)) refl

-- the least of what fits
pub child_most : (N : Night) (rows : List (List ℕ)) (k s : ℕ) → Fits N (get_or rows k no_row) (subjects_of N k) (node_of N k).size s → least_of (best_child N rows k s) ≤ 129064000000
unfolding best_child
child_most N rows k s fits = best_most N (get_or rows k no_row) (subjects_of N k) (node_of N k).size s 16 129064000000 fits

-- what the code reads of a search
pub finds : (found : Option Best) (b : Best) → b ≡ unwrap_or found (record { least = 0; lowest = 0 }) → Finds found b
finds None b e = rw e (refl, refl)
finds (Some x) b e = rw e (refl, refl)

-- for `search`: a loop over the subjects
pub ruleset best_loop = (best_none, best_more, finds)

-- a search among subjects below m gives one below m, also where it finds none
better_below : (b : Option Best) (cost t m : ℕ) → t < m → lowest_of b < m → lowest_of (better b cost t) < m
unfolding better
better_below None cost t m l h = l
better_below (Some b) cost t m l h = go (ltb cost b.least)
  where
    go : (y : Bool) → lowest_of (if y then Some (record { least = cost; lowest = t }) else Some b) < m
    go true = l
    go false = h

best_below : (N : Night) (row : List ℕ) (among size s k m : ℕ) → 0 < m → ((t : ℕ) → t < k → In t among → t < m) → lowest_of (best_of N row among size s k) < m
unfolding best_of
best_below N row among size s zero m p h = p
best_below N row among size s (suc k) m p h = go (member among k) refl (best_below N row among size s k m p (λ t l. h t (omega arith)))
  where
    b : Option Best
    b = best_of N row among size s k

    go : (x : Bool) → member among k ≡ x → lowest_of b < m → lowest_of (if x then better b (handed_on N row size s k) k else b) < m
    go true e r = better_below b (handed_on N row size s k) k m (h k (omega arith) (member_in among k e)) r
    go false e r = r

module _ (N : Night) (sound : Promised N) where
  -- one more subject given
  pub given_more : (c : List ℕ) (k p : ℕ) → Given N c → k < N.header.nodes → p < N.header.subjects → Given N (set c k p)
  given_more c k p G l q =
      record {
        long = length-set c k p ∙ G.long;
        there = λ j. go j (eqb j k) refl;
        past = λ j h. get_or-set_other c k j p 0 (λ e. omega arith) ∙ G.past j h;
      }
    where
      go : (j : ℕ) (b : Bool) → eqb j k ≡ b → get_or (set c k p) j 0 < N.header.subjects
      go j true e = rw (eqb-true j k e, get_or-set_same c k p 0 (omega (arith, G.long, sound.counts.nodes_most))) q
      go j false e = rw (get_or-set_other c k j p 0 (eqb-false j k e)) (G.there j)

  zeros : (j : ℕ) → get_or {A = ℕ} (replicate 64 0) j 0 ≡ 0
  unfolding upwards
  zeros j = agrees_none {A = ℕ} (λ before i. 0) 0 64 j

  pub given_none : Given N (replicate 64 0)
  given_none =
      record {
        long = length-replicate {A = ℕ} 64 0;
        there = λ j. rw (zeros j) sound.counts.subjects_some;
        past = λ j h. zeros j;
      }

  -- what the rows give is a subject of the night
  pub child_below : (rows : List (List ℕ)) (k s : ℕ) → k < N.header.nodes → lowest_of (best_child N rows k s) < N.header.subjects
  unfolding best_child
  child_below rows k s l = best_below N _ (subjects_of N k) _ s 16 _ sound.counts.subjects_some (λ t g. subject-there N sound k l t)

  pub last_below : (rows : List (List ℕ)) → lowest_of (best_last N rows) < N.header.subjects
  unfolding best_last
  last_below rows =
      best_below N _ (subjects_of N (N.header.nodes - 1)) _ 0 16 _ sound.counts.subjects_some
      (λ t g. subject-there N sound (N.header.nodes - 1) (omega (arith, sound.counts.nodes_some)) t)
