-- Versions without days, and files that differ in days alone.
use Rattle.std.specs.Prelude.{ℕ, ◌<◌, ◌≡◌, false, List, ltb}
use Rattle.laws.specs.First.{somewhere}
use Rattle.night.specs.Versions.{has_days}
use Rattle.night.specs.Night.{Night, grant_of}
use Rattle.night.specs.Views.{is_for}
use Rattle.night.specs.Days.{Always, in_version, ButDays}
use Rattle.format.specs.Layout.{header_of, night_of}
use Rattle.trials.specs.Trials.{pair_seen, record_trials, tree_trials}

-- in a version without days every grant is read as one from day 0 to day 65535, and the night's day as 0
abbrev pub OlderAlways : Type 0
OlderAlways = (s : List ℕ) → has_days (header_of s).version ≡ false → Always (night_of s) × ((header_of s).day ≡ 0)

-- then 6 is what it was before there were days: no last day is before its first, and a pair is seen where an earlier grant is for it
abbrev pub OlderPairs : Type 0
OlderPairs =
    (N : Night) → Always N → (i : ℕ) → i < N.header.grants
    → (ltb (grant_of N i).last (grant_of N i).first ≡ false)
    × (pair_seen N i ≡ somewhere (λ j. is_for (grant_of N j) (grant_of N i).relation (grant_of N i).subject) i)

-- and 5 to 11 say the same of such a night in a version with days, on any day
abbrev pub AlwaysRead : Type 0
AlwaysRead =
    (N : Night) (version day : ℕ) → ButDays N version day
    → (record_trials N ≡ record_trials (in_version N version day)) × (tree_trials N ≡ tree_trials (in_version N version day))
