-- Any two answers that the promise of a function for other languages admits are the same: what it writes and what it returns. Where a promise is an equation for
-- each number, nothing is to be said here.
use Rattle.std.specs.Prelude.{ℕ, ◌≡◌, List}
use Rattle.laws.specs.Trials.{answers}
use Rattle.model.specs.Reasons.{Standing}
use Rattle.verdicts.specs.Refusals.{Rooms}
use Rattle.planning.specs.Answers.{why_of}
use Rattle.writes.specs.Values.{Values}
use Rattle.tollburrow.specs.Codes.{table_number, condition_number, named_set, CheapestOut, OfferedOut, WriteOut}

-- of `cheapest`
abbrev pub CheapestOutOnce : Type 0
CheapestOutOnce =
    (s : List ℕ) (before x y : Rooms) (total steps t k code t' k' code' : ℕ)
    → CheapestOut s before x total steps t k code → CheapestOut s before y total steps t' k' code'
    → (x ≡ y) × (t ≡ t') × (k ≡ k') × (code ≡ code')

-- of `offered`
abbrev pub OfferedOutOnce : Type 0
OfferedOutOnce =
    (s offer : List ℕ) (before x y : Rooms) (total t code t' code' : ℕ)
    → OfferedOut s offer before x total t code → OfferedOut s offer before y total t' code'
    → (x ≡ y) × (t ≡ t') × (code ≡ code')

-- of `write`
abbrev pub WriteOutOnce : Type 0
WriteOutOnce =
    (vs : Values) (before x y : List ℕ) (length l code l' code' : ℕ)
    → WriteOut vs before x length l code → WriteOut vs before y length l' code'
    → (x ≡ y) × (l ≡ l') × (code ≡ code')

-- the three numbers that `why` writes tell two standings apart
abbrev pub StandingsApart : Type 0
StandingsApart =
    (s t : List ℕ) (i p j q : ℕ) (x y : Standing) → why_of s i p ≡ answers x → why_of t j q ≡ answers y
    → table_number x ≡ table_number y → condition_number x ≡ condition_number y → named_set x ≡ named_set y → x ≡ y
