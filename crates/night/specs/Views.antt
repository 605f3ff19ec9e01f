-- What a subject sees.
use Rattle.std.specs.Prelude.{ℕ, ◌<◌, ◌≤◌, ◌≡◌, Bool, false, not, eqb, ltb, if◌then◌else◌}
use Rattle.laws.specs.First.{first}
use Rattle.sets.specs.Sets.{unions}
use Rattle.night.specs.declared.Grant.{Grant}
use Rattle.night.specs.declared.View.{View}
use Rattle.night.specs.Night.{Night, grant_of}

-- the number that stands for any subject
abbrev pub any_subject : ℕ
any_subject = 255

-- the grant is on the relation, to the subject
unfoldable pub is_for : Grant → ℕ → ℕ → Bool
is_for g r p = if eqb g.relation r then eqb g.subject p else false

-- the grant shares a day with those from one to another, both included
unfoldable pub shares_day : Grant → ℕ → ℕ → Bool
shares_day g from to = if ltb to g.first then false else not (ltb g.last from)

-- it is in force on a day: from its first to its last, both included
abbrev pub in_force : Grant → ℕ → Bool
in_force g day = shares_day g day day

-- the grant is for the pair, on some of these days
unfoldable pub is_for_on : Grant → ℕ → ℕ → ℕ → ℕ → Bool
is_for_on g r p from to = if is_for g r p then shares_day g from to else false

-- the number of the first grant on the relation to the subject that is in force on the day, or the count of grants where there is none
unfoldable pub grant_on : Night → ℕ → ℕ → ℕ → ℕ
grant_on N day r p = first (λ j. is_for_on (grant_of N j) r p day day) N.header.grants

-- what a grant lets see
abbrev pub seen_by : Grant → View
seen_by g = record { clear = g.clear; sealed = g.sealed }

-- a view of a relation on a day: the subject's own grant in force, or else the grant to any in force, or else nothing
unfoldable pub view_on : Night → ℕ → ℕ → ℕ → View
view_on N day p r =
    if ltb (grant_on N day r p) N.header.grants then seen_by (grant_of N (grant_on N day r p)) else
    if ltb (grant_on N day r any_subject) N.header.grants then seen_by (grant_of N (grant_on N day r any_subject)) else
    record { clear = 0; sealed = 0 }

-- an own grant in force replaces any entirely: whatever is granted to any, the view is what the own grant says
abbrev pub OwnReplaces : Type 0
OwnReplaces = (N : Night) (day p r : ℕ) → grant_on N day r p < N.header.grants → view_on N day p r ≡ seen_by (grant_of N (grant_on N day r p))

-- or else any serves
abbrev pub AnyServes : Type 0
AnyServes =
    (N : Night) (day p r : ℕ) → N.header.grants ≤ grant_on N day r p → grant_on N day r any_subject < N.header.grants
    → view_on N day p r ≡ seen_by (grant_of N (grant_on N day r any_subject))

-- or else nothing is seen
abbrev pub NothingSeen : Type 0
NothingSeen =
    (N : Night) (day p r : ℕ) → N.header.grants ≤ grant_on N day r p → N.header.grants ≤ grant_on N day r any_subject
    → view_on N day p r ≡ record { clear = 0; sealed = 0 }

-- P and E on a day: what the subject sees in clear, and sealed, over all relations
unfoldable pub clear_on : Night → ℕ → ℕ → ℕ
clear_on N day p = unions (λ r. (view_on N day p r).clear) N.header.relations

unfoldable pub sealed_on : Night → ℕ → ℕ → ℕ
sealed_on N day p = unions (λ r. (view_on N day p r).sealed) N.header.relations

-- the views of the night are those on its day
abbrev pub view_of : Night → ℕ → ℕ → View
view_of N p r = view_on N N.header.day p r

abbrev pub clear_of : Night → ℕ → ℕ
clear_of N p = clear_on N N.header.day p

abbrev pub sealed_of : Night → ℕ → ℕ
sealed_of N p = sealed_on N N.header.day p
