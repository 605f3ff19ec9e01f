-- Small steps, and how subjects stand to them: each table and condition that can be the first to fail, and, where two fail, the earlier one.
use Rattle.std.specs.Prelude.{ℕ, ◌≡◌, List, [], ◌∷◌, None}
use Rattle.sets.specs.Sets.{union}
use Rattle.night.specs.declared.Node.{Node}
use Rattle.night.specs.Night.{Night}
use Rattle.night.specs.Kinds.{attribute}
use Rattle.model.specs.Reasons.{standing, out}

-- a set by its members
abbrev pub these : List ℕ → ℕ
these [] = 0
these (k ∷ ks) = union (attribute k) (these ks)

abbrev pub a_node : ℕ → ℕ → ℕ → ℕ → ℕ → ℕ → ℕ → Node
a_node kind left right x y set needed =
    record { kind = kind; left = left; right = right; x = x; y = y; spare1 = 0; spare2 = 0; spare3 = 0; set = set; needed = needed; size = 0; first = 0; count = 0 }

-- a night of these nodes: what is seen is handed in beside it, so it has no relations and no grants
abbrev pub nodes_of : ℕ → List Node → Night
nodes_of n nodes =
    record {
      header = record { version = 1; subjects = 1; relations = 2; attributes = 6; nodes = n; grants = 0; steps = 0; user = 0; pairs = 0; day = 0 };
      relations = [];
      grants = [];
      nodes = nodes;
      pairs = [];
      step_prices = [];
      link_prices = [];
    }

-- attributes 0, 1, 2, of which 1 and 2 are compared and then 2 is dropped; 3, 4, 5, of which 4 and 5 are compared; node 5 joins both on 0 and 3; node 6
-- tests one; node 7 keeps 1 and 4 alone; node 8 tests 1, which it needs. Left to the row are what node 5 needs, the attribute that node 6 tests and what it
-- needs, and the right of node 2, which has no right operand
abbrev pub joins : ℕ → ℕ → ℕ → ℕ → Night
joins needed tested needs unused =
    nodes_of 9
    (a_node 0 255 255 0 255 (these (0 ∷ 1 ∷ 2 ∷ [])) 0
    ∷ a_node 3 0 255 1 2 0 0
    ∷ a_node 1 1 unused 255 255 (these (0 ∷ 1 ∷ [])) 0
    ∷ a_node 0 255 255 1 255 (these (3 ∷ 4 ∷ 5 ∷ [])) 0
    ∷ a_node 3 3 255 4 5 0 0
    ∷ a_node 5 2 4 0 3 0 needed
    ∷ a_node 2 5 255 tested 255 0 needs
    ∷ a_node 1 6 255 255 255 (these (1 ∷ 4 ∷ [])) 0
    ∷ a_node 2 7 255 1 255 0 (these (1 ∷ []))
    ∷ [])

-- attribute 1 is compared with itself and then dropped; node 3 tests 0
abbrev pub itself : Night
itself =
    nodes_of 4
    (a_node 0 255 255 0 255 (these (0 ∷ 1 ∷ [])) 0 ∷ a_node 3 0 255 1 1 0 0
    ∷ a_node 1 1 255 255 255 (these (0 ∷ [])) 0 ∷ a_node 2 2 255 0 255 0 0 ∷ [])

-- a join of nodes 0 and 1 on as many pairs from the first on
abbrev pub a_join_on : ℕ → ℕ → ℕ → Node
a_join_on first count needed =
    record { kind = 9; left = 0; right = 1; x = 255; y = 255; spare1 = 0; spare2 = 0; spare3 = 0; set = 0; needed = needed; size = 0; first = first; count = count }

-- attributes 0, 1, 2 and 3, 4, 5, joined on pairs: of 0 with 3, of 1 with 4 and of 1 with 5 as many as the row says from its first on; what the join
-- needs is left to the row too
abbrev pub joins_on : ℕ → ℕ → ℕ → Night
joins_on first count needed =
    record {
      header = record { version = 3; subjects = 1; relations = 2; attributes = 6; nodes = 3; grants = 0; steps = 0; user = 0; pairs = 3; day = 0 };
      relations = [];
      grants = [];
      nodes =
          a_node 0 255 255 0 255 (these (0 ∷ 1 ∷ 2 ∷ [])) 0
          ∷ a_node 0 255 255 1 255 (these (3 ∷ 4 ∷ 5 ∷ [])) 0
          ∷ a_join_on first count needed
          ∷ [];
      pairs = record { left = 0; right = 3 } ∷ record { left = 1; right = 4 } ∷ record { left = 1; right = 5 } ∷ [];
      step_prices = [];
      link_prices = [];
    }

-- the join needs its attributes, and node 6 the one that it tests; or neither does
abbrev pub in_clear : Night
in_clear = joins (these (0 ∷ 3 ∷ [])) 0 (these (0 ∷ [])) 255

abbrev pub all_sealed : Night
all_sealed = joins 0 0 0 255

-- behind the step's number stand the attributes that the subject sees in clear, then those that it sees sealed
pub record Standings : Type 0 where
  pub candidate : standing in_clear 5 (these (0 ∷ 1 ∷ 2 ∷ 3 ∷ [])) (these (4 ∷ 5 ∷ [])) ≡ None
  -- the left operand's least view: 0 clear, 1 sealed, 1 and 2 tied
  pub left_1 : standing in_clear 5 (these (1 ∷ 2 ∷ 3 ∷ 4 ∷ 5 ∷ [])) (these (0 ∷ [])) ≡ out 1 1 (these (0 ∷ []))
  pub left_2 : standing in_clear 5 (these (0 ∷ 3 ∷ [])) (these (4 ∷ 5 ∷ [])) ≡ out 1 2 (these (1 ∷ []))
  pub left_3 : standing in_clear 5 (these (0 ∷ 1 ∷ 3 ∷ [])) (these (2 ∷ 4 ∷ 5 ∷ [])) ≡ out 1 3 (these (1 ∷ 2 ∷ []))
  -- the right one's: 3 clear, 4 and 5 sealed and tied
  pub right_1 : standing in_clear 5 (these (0 ∷ 1 ∷ 2 ∷ [])) (these (3 ∷ 4 ∷ 5 ∷ [])) ≡ out 2 1 (these (3 ∷ []))
  pub right_2 : standing in_clear 5 (these (0 ∷ 1 ∷ 2 ∷ 3 ∷ 4 ∷ [])) 0 ≡ out 2 2 (these (5 ∷ []))
  pub right_3 : standing in_clear 5 (these (0 ∷ 1 ∷ 2 ∷ 3 ∷ 4 ∷ [])) (these (5 ∷ [])) ≡ out 2 3 (these (4 ∷ 5 ∷ []))
  -- the result: 0 and 3 tied too
  pub result_3 : standing all_sealed 5 (these (0 ∷ 1 ∷ 2 ∷ [])) (these (3 ∷ 4 ∷ 5 ∷ [])) ≡ out 3 3 (these (0 ∷ 3 ∷ []))
  -- one operand: it is the left one, and a right that the kind does not use is not looked at
  pub one_operand : standing in_clear 1 (these (1 ∷ [])) (these (0 ∷ 2 ∷ [])) ≡ out 3 3 (these (1 ∷ 2 ∷ []))
  pub no_right : standing (joins 0 0 0 3) 2 (these (0 ∷ 1 ∷ 2 ∷ [])) 0 ≡ None
  -- 1 before 2, 2 before 3; left before right, right before result
  pub first_before_second : standing in_clear 5 0 0 ≡ out 1 1 (these (0 ∷ []))
  pub second_before_third : standing in_clear 5 (these (0 ∷ 3 ∷ [])) (these (2 ∷ [])) ≡ out 1 2 (these (1 ∷ []))
  pub left_before_right : standing in_clear 5 (these (0 ∷ 1 ∷ [])) (these (2 ∷ [])) ≡ out 1 3 (these (1 ∷ 2 ∷ []))
  pub right_before_result : standing all_sealed 5 (these (0 ∷ 1 ∷ 2 ∷ 4 ∷ [])) (these (3 ∷ 5 ∷ [])) ≡ out 2 3 (these (4 ∷ 5 ∷ []))
  -- the lowest attribute, of the visible and the implicit part together: 1 clear and 0 tested in clear; 4 sealed and 0 tested sealed; the same with 5 for 0
  pub lowest_clear : standing in_clear 8 (these (2 ∷ 3 ∷ 4 ∷ 5 ∷ [])) (these (0 ∷ 1 ∷ [])) ≡ out 1 1 (these (0 ∷ []))
  pub lowest_sealed : standing all_sealed 8 (these (1 ∷ [])) 0 ≡ out 1 2 (these (0 ∷ []))
  pub lowest_visible : standing (joins 0 5 (these (5 ∷ [])) 255) 8 (these (0 ∷ 2 ∷ 3 ∷ 4 ∷ [])) (these (1 ∷ 5 ∷ [])) ≡ out 1 1 (these (1 ∷ []))
  pub lowest_hidden : standing (joins 0 5 0 255) 8 (these (1 ∷ [])) 0 ≡ out 1 2 (these (4 ∷ []))
  pub lowest_of_two : standing in_clear 5 (these (0 ∷ 1 ∷ 2 ∷ 3 ∷ [])) 0 ≡ out 2 2 (these (4 ∷ []))
  -- of three tied sets that fail the one with the lowest first attribute, whole, though no attribute of it is visible
  pub first_tied : standing all_sealed 8 (these (0 ∷ 1 ∷ 4 ∷ [])) (these (2 ∷ 3 ∷ 5 ∷ [])) ≡ out 1 3 (these (0 ∷ 3 ∷ []))
  -- a lower tied set that lies wholly sealed doesn't fail, nor does one that lies wholly in clear: the higher one is named
  pub tied_behind : standing all_sealed 8 (these (1 ∷ 2 ∷ 4 ∷ [])) (these (0 ∷ 3 ∷ 5 ∷ [])) ≡ out 1 3 (these (4 ∷ 5 ∷ []))
  -- a tied set of one attribute counts, and lies sealed where that is seen sealed
  pub tied_alone : standing itself 3 (these (0 ∷ [])) 0 ≡ out 1 3 (these (1 ∷ []))
  pub tied_sealed : standing itself 3 (these (0 ∷ [])) (these (1 ∷ [])) ≡ None
  -- a join on 0 with 3 and 1 with 4: one pair is seen in clear and the other sealed, and none is needed, or the one in clear; of the first, or of the last,
  -- or of a third that shares an attribute, one is seen in clear and one sealed, and just that tied set fails
  pub pairs_each : standing (joins_on 0 2 0) 2 (these (0 ∷ 2 ∷ 3 ∷ 5 ∷ [])) (these (1 ∷ 4 ∷ [])) ≡ None
  pub pair_needed : standing (joins_on 0 2 (these (0 ∷ 3 ∷ []))) 2 (these (0 ∷ 2 ∷ 3 ∷ 5 ∷ [])) (these (1 ∷ 4 ∷ [])) ≡ None
  pub pair_half : standing (joins_on 0 2 0) 2 (these (0 ∷ 1 ∷ 2 ∷ 4 ∷ 5 ∷ [])) (these (3 ∷ [])) ≡ out 3 3 (these (0 ∷ 3 ∷ []))
  pub last_pair_half : standing (joins_on 0 2 0) 2 (these (0 ∷ 1 ∷ 2 ∷ 3 ∷ 5 ∷ [])) (these (4 ∷ [])) ≡ out 3 3 (these (1 ∷ 4 ∷ []))
  pub third_pair_half : standing (joins_on 0 3 0) 2 (these (0 ∷ 1 ∷ 2 ∷ 3 ∷ 4 ∷ [])) (these (5 ∷ [])) ≡ out 3 3 (these (1 ∷ 4 ∷ 5 ∷ []))
  -- a pair past those that the join names is not tied
  pub pair_past : standing (joins_on 0 1 0) 2 (these (0 ∷ 1 ∷ 2 ∷ 3 ∷ 5 ∷ [])) (these (4 ∷ [])) ≡ None
  -- 1 with 4 and 1 with 5 are one tied set, though each pair is seen whole
  pub pairs_shared : standing (joins_on 1 2 0) 2 (these (0 ∷ 1 ∷ 2 ∷ 3 ∷ 4 ∷ [])) (these (1 ∷ 5 ∷ [])) ≡ out 3 3 (these (1 ∷ 4 ∷ 5 ∷ []))
