-- One test in place of three tables: 1 and 2 are asked of the operands' least views joined, 3 of the result; and whom 3 puts out, set by set.
use Rattle.std.specs.Prelude.{ℕ, ◌^◌, ◌<◌, ◌≡◌, Bool, true, false, List, [], ◌∷◌, ◌↔◌, eqb, get_or, if◌then◌else◌}
use Rattle.laws.specs.First.{somewhere}
use Rattle.sets.specs.Sets.{minus, within, single, unions}
use Rattle.night.specs.Night.{Night, node_of}
use Rattle.night.specs.Kinds.{uses_left, uses_right}
use Rattle.night.specs.Views.{clear_of, sealed_of}
use Rattle.night.specs.Promised.{Promised}
use Rattle.model.specs.declared.Table.{Table}
use Rattle.model.specs.Ties.{untied, gathered, tie, Classes}
use Rattle.model.specs.Tables.{least_view, joined, table_of}
use Rattle.model.specs.Candidates.{clear_offends, sealed_offends, ClearHolds, SealedHolds, TiedHolds, Candidate, candidate_set}
use Rattle.model.specs.Standings.{these, a_node, joins, joins_on, in_clear}

-- what step i has of its operands: their least views, joined where there are two
unfoldable pub taken_by : Night → ℕ → Table
taken_by N i =
    if uses_right (node_of N i).kind
    then joined (least_view (node_of N i).needed (table_of N (node_of N i).left)) (least_view (node_of N i).needed (table_of N (node_of N i).right))
    else least_view (node_of N i).needed (table_of N (node_of N i).left)

-- a subject is a candidate of a step exactly when 1 and 2 hold of its operands' least views joined, and 3 of its result
abbrev pub OneTest : Type 0
OneTest =
    (N : Night) → Promised N → (i : ℕ) → i < N.header.nodes → ((node_of N i).kind ≡ 0 → ⊥) → (P E : ℕ)
    → Candidate N i P E ↔ (ClearHolds (taken_by N i) P E × SealedHolds (taken_by N i) P E × TiedHolds (table_of N i) P E)

-- a set lies neither wholly in P nor wholly in E
unfoldable pub splits : ℕ → ℕ → ℕ → Bool
splits S P E = if within S P then false else if within S E then false else true

-- 3 holds of a list of tied sets
abbrev pub WholeAll : List ℕ → ℕ → ℕ → Type 0
WholeAll t P E = (k : ℕ) → k < 64 → splits (get_or t k 0) P E ≡ false

-- one set more is tied: 3 holds then exactly when it held before and holds of the set that is made
abbrev pub TieHolds : Type 1
TieHolds =
    (T : ℕ → Type 0) (t : List ℕ) (s : ℕ) → Classes T t → s < 2 ^ 64 → (P E : ℕ)
    → WholeAll (tie t s) P E ↔ (WholeAll t P E × (splits (gathered t s 64) P E ≡ false))

-- the subjects whom condition 3 on one set puts out
unfoldable pub out_by : Night → ℕ → ℕ
out_by N S = unions (λ p. if splits S (clear_of N p) (sealed_of N p) then single 16 p else 0) N.header.subjects

-- and those whom it puts out on one of the tied sets
unfoldable pub out_of : Night → List ℕ → ℕ
out_of N t = unions (λ p. if somewhere (λ k. splits (get_or t k 0) (clear_of N p) (sealed_of N p)) 64 then single 16 p else 0) N.header.subjects

-- 1 and 2 hold of a table
unfoldable pub passes_both : Table → ℕ → ℕ → Bool
passes_both t P E = if eqb (clear_offends t P E) 0 then eqb (sealed_offends t P E) 0 else false

-- the candidates of a step are those who pass 1 and 2 of what it has of its operands, less those whom 3 on its result puts out
abbrev pub OneTestSet : Type 0
OneTestSet =
    (N : Night) → Promised N → (i : ℕ) → i < N.header.nodes → ((node_of N i).kind ≡ 0 → ⊥)
    → candidate_set N i
    ≡ minus (unions (λ p. if passes_both (taken_by N i) (clear_of N p) (sealed_of N p) then single 16 p else 0) N.header.subjects) (out_of N (table_of N i).tied)

-- node k is node i or a node under it
pub data Under (N : Night) : ℕ → ℕ → Type 0 where
  here : {i : ℕ} → Under N i i
  by_left : {i k : ℕ} → uses_left (node_of N i).kind ≡ true → Under N (node_of N i).left k → Under N i k
  by_right : {i k : ℕ} → uses_right (node_of N i).kind ≡ true → Under N (node_of N i).right k → Under N i k

-- three subjects: 0 sees attributes 0 and 1 in clear, 1 sees 0 in clear and 1 sealed, 2 sees both sealed; nobody sees 2
abbrev pub three_views : Night
three_views =
    record {
      header = record { version = 1; subjects = 3; relations = 1; attributes = 3; nodes = 0; grants = 3; steps = 0; user = 0; pairs = 0; day = 0 };
      relations = record { owner = 0; set = these (0 ∷ 1 ∷ 2 ∷ []) } ∷ [];
      grants =
          record { relation = 0; subject = 0; first = 0; last = 65535; clear = these (0 ∷ 1 ∷ []); sealed = 0 }
          ∷ record { relation = 0; subject = 1; first = 0; last = 65535; clear = these (0 ∷ []); sealed = these (1 ∷ []) }
          ∷ record { relation = 0; subject = 2; first = 0; last = 65535; clear = 0; sealed = these (0 ∷ 1 ∷ []) }
          ∷ [];
      nodes = [];
      pairs = [];
      step_prices = [];
      link_prices = [];
    }

-- five subjects and a query over two relations, {0, 1} and {40}: a join of 1 with 40, a select of 0, which is needed, and a project to 0. Subject 0 sees
-- all in clear; 1 sees 0 in clear and the others sealed; 2 all sealed; 3 sees 0 and 1 in clear and 40 sealed; 4 has an own grant of nothing on the first
-- relation, and any on the second, in clear
abbrev pub five_views : Night
five_views =
    record {
      header = record { version = 1; subjects = 5; relations = 2; attributes = 41; nodes = 5; grants = 11; steps = 0; user = 0; pairs = 0; day = 0 };
      relations = record { owner = 0; set = these (0 ∷ 1 ∷ []) } ∷ record { owner = 0; set = these (40 ∷ []) } ∷ [];
      grants =
          record { relation = 0; subject = 0; first = 0; last = 65535; clear = these (0 ∷ 1 ∷ []); sealed = 0 }
          ∷ record { relation = 1; subject = 0; first = 0; last = 65535; clear = these (40 ∷ []); sealed = 0 }
          ∷ record { relation = 0; subject = 1; first = 0; last = 65535; clear = these (0 ∷ []); sealed = these (1 ∷ []) }
          ∷ record { relation = 1; subject = 1; first = 0; last = 65535; clear = 0; sealed = these (40 ∷ []) }
          ∷ record { relation = 0; subject = 2; first = 0; last = 65535; clear = 0; sealed = these (0 ∷ 1 ∷ []) }
          ∷ record { relation = 1; subject = 2; first = 0; last = 65535; clear = 0; sealed = these (40 ∷ []) }
          ∷ record { relation = 0; subject = 3; first = 0; last = 65535; clear = these (0 ∷ 1 ∷ []); sealed = 0 }
          ∷ record { relation = 1; subject = 3; first = 0; last = 65535; clear = 0; sealed = these (40 ∷ []) }
          ∷ record { relation = 0; subject = 4; first = 0; last = 65535; clear = 0; sealed = 0 }
          ∷ record { relation = 0; subject = 255; first = 0; last = 65535; clear = these (0 ∷ 1 ∷ []); sealed = 0 }
          ∷ record { relation = 1; subject = 255; first = 0; last = 65535; clear = these (40 ∷ []); sealed = 0 }
          ∷ [];
      nodes =
          a_node 0 255 255 0 255 (these (0 ∷ 1 ∷ [])) 0
          ∷ a_node 0 255 255 1 255 (these (40 ∷ [])) 0
          ∷ a_node 5 0 1 1 40 0 0
          ∷ a_node 2 2 255 0 255 0 (these (0 ∷ []))
          ∷ a_node 1 3 255 255 255 (these (0 ∷ [])) 0
          ∷ [];
      pairs = [];
      step_prices = [];
      link_prices = [];
    }

-- behind a set stand the attributes that the subject sees in clear, then those that it sees sealed
pub record SmallTests : Type 0 where
  -- a set half in P and half in E splits, and so does one that is seen neither way; the empty set does not
  pub half : splits (these (0 ∷ 1 ∷ [])) (these (0 ∷ [])) (these (1 ∷ [])) ≡ true
  pub unseen : splits (these (2 ∷ [])) (these (0 ∷ [])) (these (1 ∷ [])) ≡ true
  pub in-clear : splits (these (0 ∷ 1 ∷ [])) (these (0 ∷ 1 ∷ 2 ∷ [])) 0 ≡ false
  pub in_sealed : splits (these (0 ∷ 1 ∷ [])) (these (0 ∷ [])) (these (0 ∷ 1 ∷ [])) ≡ false
  pub nothing : splits 0 0 0 ≡ false
  -- subject 1 alone is put out by 0 and 1 tied, everyone by 2
  pub out_half : out_by three_views (these (0 ∷ 1 ∷ [])) ≡ single 16 1
  pub out_all : out_by three_views (these (2 ∷ [])) ≡ 7
  pub out_one : out_by three_views (these (0 ∷ [])) ≡ 0
  pub out-tied : out_of three_views (tie untied (these (0 ∷ 1 ∷ []))) ≡ single 16 1
  pub out_later : out_of three_views (tie (tie untied (these (0 ∷ 1 ∷ []))) (these (2 ∷ []))) ≡ 7
  -- the join of `joins` has the columns and ties of both operands, a project those of one
  pub two_clear : (taken_by in_clear 5).clear ≡ these (0 ∷ 3 ∷ [])
  pub two_sealed : (taken_by in_clear 5).sealed ≡ these (1 ∷ 4 ∷ 5 ∷ [])
  pub two_tied : (get_or (taken_by in_clear 5).tied 1 0 ≡ these (1 ∷ 2 ∷ [])) × (get_or (taken_by in_clear 5).tied 4 0 ≡ these (4 ∷ 5 ∷ []))
  pub one_sealed : (taken_by (joins 0 0 0 3) 2).sealed ≡ these (0 ∷ 1 ∷ 2 ∷ [])
  -- 1 and 2 of that join
  pub passes : passes_both (taken_by in_clear 5) (these (0 ∷ 3 ∷ [])) (these (1 ∷ 4 ∷ 5 ∷ [])) ≡ true
  pub not_clear : passes_both (taken_by in_clear 5) (these (0 ∷ [])) (these (1 ∷ 3 ∷ 4 ∷ 5 ∷ [])) ≡ false
  pub not_sealed : passes_both (taken_by in_clear 5) (these (0 ∷ 3 ∷ [])) (these (1 ∷ 4 ∷ [])) ≡ false
  -- the candidates of join, select and project: 3 puts 3 and 4 out of all three, also once 40 is gone; 2 may not have the select, nor the project, whose
  -- operand tested 0 in clear; of the project 3 passes 1 and 2
  pub of_join : candidate_set five_views 2 ≡ 7
  pub of_select : candidate_set five_views 3 ≡ 3
  pub of_project : candidate_set five_views 4 ≡ 3
  pub still_out : out_of five_views (table_of five_views 4).tied ≡ 24
  pub third_passes : passes_both (taken_by five_views 4) (clear_of five_views 3) (sealed_of five_views 3) ≡ true
  -- {1, 40} and then {0, 40} make {0, 1, 40}, which 0 sees in clear and 2 sealed
  pub grown : out_of five_views (tie (tie untied (these (1 ∷ 40 ∷ []))) (these (0 ∷ 40 ∷ []))) ≡ 26
  -- two pairs that share no attribute are two tied sets; all of both operands is visible after the join, the pair that it needs in clear
  pub pairs_apart :
      (get_or (table_of (joins_on 0 2 0) 2).tied 0 0 ≡ these (0 ∷ 3 ∷ [])) × (get_or (table_of (joins_on 0 2 0) 2).tied 4 0 ≡ these (1 ∷ 4 ∷ []))
  pub pairs_visible :
      ((table_of (joins_on 0 2 (these (0 ∷ 3 ∷ []))) 2).clear ≡ these (0 ∷ 3 ∷ []))
      × ((table_of (joins_on 0 2 (these (0 ∷ 3 ∷ []))) 2).sealed ≡ these (1 ∷ 2 ∷ 4 ∷ 5 ∷ []))
