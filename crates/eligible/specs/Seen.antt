-- What one pass over the grants holds, and what every subject sees from that.
use Rattle.std.specs.Prelude.{ℕ, ◌+◌, List, eqb, get_or, if◌then◌else◌}
use Rattle.laws.specs.Upwards.{each}
use Rattle.sets.specs.Sets.{member, union, single, unions}
use Rattle.night.specs.declared.Grant.{Grant}
use Rattle.night.specs.Night.{Night, grant_of}
use Rattle.night.specs.Views.{any_subject, in_force}

-- where the sets of a grant are held: of one to a subject at the subject's number, of one to any past those 16, at its relation's number
unfoldable pub place : Grant → ℕ
place g = if eqb g.subject any_subject then 16 + g.relation else g.subject

-- what those of the first n grants that go to place k have together
unfoldable pub held_at : (Grant → ℕ) → (Grant → ℕ) → Night → ℕ → ℕ → ℕ
held_at to sets N n k = unions (λ j. if eqb (to (grant_of N j)) k then sets (grant_of N j) else 0) n

-- of a grant that is in force on the day, or else nothing
abbrev pub when_in : ℕ → (Grant → ℕ) → Grant → ℕ
when_in day sets g = if in_force g day then sets g else 0

-- the sets of the first n grants by place, of those in force
abbrev pub held : ℕ → (Grant → ℕ) → Night → ℕ → List ℕ
held day sets N n = each 32 (held_at place (when_in day sets) N n)

-- for each relation the subjects to whom one of the first n grants is that is in force
abbrev pub grantees : ℕ → Night → ℕ → List ℕ
grantees day N n = each 16 (held_at (λ g. g.relation) (when_in day (λ g. single 16 g.subject)) N n)

-- what the grant to any on relation r lets subject p see: nothing where the subject has an own grant on it that is in force
unfoldable pub any_for : List ℕ → List ℕ → ℕ → ℕ → ℕ
any_for sets own p r = if member (get_or own r 0) p then 0 else get_or sets (16 + r) 0

-- all that subject p sees
unfoldable pub seen_from : List ℕ → List ℕ → ℕ → ℕ
seen_from sets own p = union (get_or sets p 0) (unions (any_for sets own p) 16)
