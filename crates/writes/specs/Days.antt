-- A file of version 3 as one of version 4.
use Rattle.std.specs.Prelude.{ℕ, ◌<◌, ◌≡◌, List}
use Rattle.laws.specs.Trials.{answers, verdict}
use Rattle.night.specs.Days.{header_in, in_version}
use Rattle.format.specs.Layout.{header_of, night_of}
use Rattle.trials.specs.Trials.{header_trials}
use Rattle.writes.specs.Values.{with_header, file_bytes, values_of}
use Rattle.writes.specs.Back.{Bytes}

-- 1 to 4, and 3 for the length, pass
abbrev pub Headed : List ℕ → Type 0
Headed s = verdict (header_trials s) (tt {0}) ≡ answers tt

-- its values, written in version 4 for a night's day: each grant from day 0 to day 65535, as it was read
abbrev pub as_four : ℕ → List ℕ → List ℕ
as_four day s = file_bytes (with_header (header_in (header_of s) 4 day) (values_of s))

-- that file has the same night in version 4, on that day
abbrev pub InFour : Type 0
InFour =
    (s : List ℕ) (day : ℕ) → Bytes s → (header_of s).version ≡ 3 → Headed s → day < 65536
    → Headed (as_four day s) × (night_of (as_four day s) ≡ in_version (night_of s) 4 day)
