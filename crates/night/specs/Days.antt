-- The same night on another day, or in another version, and what a view on a day rests on.
use Rattle.std.specs.Prelude.{ℕ, ◌<◌, ◌≡◌, true, ◌⊎◌}
use Rattle.laws.specs.First.{first}
use Rattle.night.specs.declared.Header.{Header}
use Rattle.night.specs.Night.{Night, grant_of}
use Rattle.night.specs.Views.{is_for, in_force, grant_on, view_on, view_of, clear_on, clear_of, sealed_on, sealed_of}
use Rattle.night.specs.Versions.{delivers, has_pairs}
use Rattle.night.specs.Promised.{Promised}

-- the header with another version and another day
abbrev pub header_in : Header → ℕ → ℕ → Header
header_in h version day =
    record {
      version = version;
      subjects = h.subjects;
      relations = h.relations;
      attributes = h.attributes;
      nodes = h.nodes;
      grants = h.grants;
      steps = h.steps;
      user = h.user;
      pairs = h.pairs;
      day = day;
    }

-- the night in that version and on that day, all else equal
unfoldable pub in_version : Night → ℕ → ℕ → Night
in_version N version day =
    record {
      header = header_in N.header version day;
      relations = N.relations;
      grants = N.grants;
      nodes = N.nodes;
      pairs = N.pairs;
      step_prices = N.step_prices;
      link_prices = N.link_prices;
    }

-- the night on that day
abbrev pub on_day : Night → ℕ → Night
on_day N day = in_version N N.header.version day

-- on its own day it is the night itself
abbrev pub Itself : Type 0
Itself = (N : Night) → on_day N N.header.day ≡ N

-- what it sees is what is seen on that day
abbrev pub SeenThen : Type 0
SeenThen =
    (N : Night) (day p : ℕ)
    → ((r : ℕ) → view_of (on_day N day) p r ≡ view_on N day p r) × (clear_of (on_day N day) p ≡ clear_on N day p) × (sealed_of (on_day N day) p ≡ sealed_on N day p)

-- what reading promises of a night holds of it on every day, so that whatever is proved of promised nights is proved over any day
abbrev pub AnyDay : Type 0
AnyDay = (N : Night) → Promised N → (day : ℕ) → Promised (on_day N day)

-- a view rests on the grants in force alone: nights of as many grants that agree in each that is in force on the day in one of them have the same views that
-- day, whatever the others are
abbrev pub OnlyInForce : Type 0
OnlyInForce =
    (N M : Night) (day p r : ℕ) → N.header.grants ≡ M.header.grants
    → ((j : ℕ) → j < N.header.grants → (in_force (grant_of N j) day ≡ true) ⊎ (in_force (grant_of M j) day ≡ true) → grant_of N j ≡ grant_of M j)
    → view_on N day p r ≡ view_on M day p r

-- every grant is from day 0 to day 65535, as those of versions without days are read
abbrev pub Always : Night → Type 0
Always N = (j : ℕ) → j < N.header.grants → ((grant_of N j).first ≡ 0) × ((grant_of N j).last ≡ 65535)

-- then on every day of 16 bits the grant that is found for a pair is the first for it
abbrev pub AlwaysFirst : Type 0
AlwaysFirst = (N : Night) → Always N → (day r p : ℕ) → day < 65536 → grant_on N day r p ≡ first (λ j. is_for (grant_of N j) r p) N.header.grants

-- and so every day's view is the same
abbrev pub AlwaysSame : Type 0
AlwaysSame = (N : Night) → Always N → (day other p r : ℕ) → day < 65536 → other < 65536 → view_on N day p r ≡ view_on N other p r

-- the night in another version that has a user and pairs where its own has, and on another day: both days of 16 bits, and every grant in force on each
pub record ButDays (N : Night) (version day : ℕ) : Type 0 where
  pub always : Always N
  pub delivering : delivers N.header.version ≡ delivers version
  pub pairing : has_pairs N.header.version ≡ has_pairs version
  pub its_day : N.header.day < 65536
  pub that_day : day < 65536
