-- Two choices of the same total: the list of subjects is read from the last node to the first. What they cost, and the plan for one of them.
use Rattle.std.specs.Prelude.{◌≡◌, [], ◌∷◌, Some, get_or}
use Rattle.night.specs.Night.{Night}
use Rattle.model.specs.Choice.{Choice, Admissible, Least, total, steps}
use Rattle.model.specs.Dp.{better}
use Rattle.model.specs.Plan.{sealings, built, plan_room, keys_room}

-- three subjects who all see the one attribute; a leaf of subject 0 and two selects one over the other, of which the last needs the attribute. Nodes 1 and 2
-- are cheap at subject 1, or else at subjects 0 and 2; every link has another price there and back
abbrev pub even_night : Night
even_night =
    record {
      header = record { version = 1; subjects = 3; relations = 1; attributes = 1; nodes = 3; grants = 1; steps = 12; user = 0; pairs = 0; day = 0 };
      relations = record { owner = 0; set = 1 } ∷ [];
      grants = record { relation = 0; subject = 255; first = 0; last = 65535; clear = 1; sealed = 0 } ∷ [];
      nodes =
          record { kind = 0; left = 255; right = 255; x = 0; y = 255; spare1 = 0; spare2 = 0; spare3 = 0; set = 1; needed = 0; size = 2; first = 0; count = 0 }
          ∷ record { kind = 2; left = 0; right = 255; x = 0; y = 255; spare1 = 0; spare2 = 0; spare3 = 0; set = 0; needed = 0; size = 3; first = 0; count = 0 }
          ∷ record { kind = 2; left = 1; right = 255; x = 0; y = 255; spare1 = 0; spare2 = 0; spare3 = 0; set = 0; needed = 1; size = 1; first = 0; count = 0 }
          ∷ [];
      pairs = [];
      step_prices = (0 ∷ 0 ∷ 0 ∷ []) ∷ (1 ∷ 1 ∷ 9 ∷ []) ∷ (9 ∷ 1 ∷ 1 ∷ []) ∷ [];
      link_prices = (0 ∷ 3 ∷ 2 ∷ []) ∷ (1 ∷ 0 ∷ 5 ∷ []) ∷ (4 ∷ 6 ∷ 0 ∷ []) ∷ [];
    }

-- smaller at the last node; and smaller at the first node where they differ
abbrev pub smaller_last : Choice
smaller_last i = get_or (0 ∷ 1 ∷ 1 ∷ []) i 0

abbrev pub smaller_first : Choice
smaller_first i = get_or (0 ∷ 0 ∷ 2 ∷ []) i 0

-- both may be chosen at the same total, and the one that is smaller at the first node is not the cheapest choice
pub record ReadFromLast : Type 0 where
  pub last_may : Admissible even_night smaller_last
  pub first_may : Admissible even_night smaller_first
  pub same_total : total even_night smaller_first ≡ total even_night smaller_last
  pub first_not : Least even_night smaller_first → ⊥

-- by numbers: 1 and 1 for the two steps and 2 times 3 for handing the leaf's table to subject 1, or 3 times 2 for handing node 1's to subject 2; each step has
-- three candidates and the leaf counts 1
pub record SmallPlan : Type 0 where
  pub total_last : total even_night smaller_last ≡ 8
  pub total_first : total even_night smaller_first ≡ 8
  pub steps_all : steps even_night ≡ 12
  -- as it is worked out: of equally cheap subjects the first one stays, a cheaper one is taken
  pub first_kept : better (Some (record { least = 5; lowest = 1 })) 5 2 ≡ Some (record { least = 5; lowest = 1 })
  pub cheaper_taken : better (Some (record { least = 5; lowest = 1 })) 4 2 ≡ Some (record { least = 4; lowest = 2 })
  -- the last node, which has the attribute in clear, seals nothing, since it is the root
  pub root_seals : sealings even_night 2 ≡ 0
  -- opens and seals per node: the leaf seals, the last node opens
  pub plan_built : plan_room even_night (built even_night smaller_last) ≡ 0 ∷ 1 ∷ 0 ∷ 0 ∷ 1 ∷ 0 ∷ []
  -- the one key and its holders, subject 0, which seals, and 1, which opens
  pub keys_built : keys_room even_night (built even_night smaller_last) ≡ 0 ∷ 3 ∷ []
