-- The trials of the lent rooms: where they pass, each room is long enough.
use Prim.Native.Nat.{ℕ, ◌*◌, ◌≤◌}
use mathlib.Core.Path.{◌≡◌, sym}
use mathlib.Core.List.{List, ◌++◌}
use lib.ListN.{length}
use borrow.Author.Tests.{ltb-false}
use Rattle.laws.specs.Trials.{Trial, answers, verdict}
use Rattle.laws.proofs.Trials.{passed}
use Rattle.night.specs.Night.{Night}
use Rattle.verdicts.specs.Refusals.{choice_room_trials, plan_room_trials, keys_room_trials}

abbrev pub two_trials : Night → List ℕ → List ℕ → List Trial
two_trials N plan keys = plan_room_trials N plan ++ keys_room_trials N keys

abbrev pub three_trials : Night → List ℕ → List ℕ → List ℕ → List Trial
three_trials N choice plan keys = choice_room_trials N choice ++ two_trials N plan keys

pub two_long : (N : Night) (plan keys : List ℕ) → answers (tt {0}) ≡ verdict (two_trials N plan keys) tt
    → (2 * N.header.nodes ≤ length plan) × (2 * N.header.attributes ≤ length keys)
unfolding plan_room_trials keys_room_trials
two_long N plan keys e =
    let w = (passed (two_trials N plan keys) tt tt (sym e)).0 in
    (ltb-false (length plan) (2 * N.header.nodes) w.0, ltb-false (length keys) (2 * N.header.attributes) w.1.0)

pub three_long : (N : Night) (choice plan keys : List ℕ) → answers (tt {0}) ≡ verdict (three_trials N choice plan keys) tt
    → (N.header.nodes ≤ length choice) × (2 * N.header.nodes ≤ length plan) × (2 * N.header.attributes ≤ length keys)
unfolding choice_room_trials plan_room_trials keys_room_trials
three_long N choice plan keys e =
    let w = (passed (three_trials N choice plan keys) tt tt (sym e)).0 in (
      ltb-false (length choice) N.header.nodes w.0,
      ltb-false (length plan) (2 * N.header.nodes) w.1.0,
      ltb-false (length keys) (2 * N.header.attributes) w.1.1.0,
    )
