-- A part of the code tries the first rows, and hands on their refusal, or goes on to the rows behind them.
use mathlib.Core.Path.{◌≡◌, refl}
use mathlib.Core.List.{List, ◌++◌}
use Rattle.std.specs.Prelude.{Result, Ok, Err}
use Rattle.laws.specs.Trials.{Trial, verdict}
use Rattle.laws.proofs.Trials.{stops_at, goes_on}
use Rattle.night.specs.declared.refusals.Refusal.{Refusal}
use Rattle.night.specs.Refusals.{said}

pub stopped : (xs ys : List Trial) {r s : Result (Unit {0}) Refusal} {e : Refusal} → said r ≡ verdict xs tt → r ≡ Err e → s ≡ Err e → said s ≡ verdict (xs ++ ys) tt
stopped xs ys {e = e} tried is same = rw same (stops_at xs ys (said (Err e)) _ _ (rw is at tried) refl)

pub went_on : (xs ys : List Trial) (q : Result (Unit {0}) Refusal) {r : Result (Unit {0}) Refusal} {u : Unit {0}} → said r ≡ verdict xs tt → r ≡ Ok u → said q ≡ verdict ys tt → said q ≡ verdict (xs ++ ys) tt
went_on xs ys q {u = u} tried is more = goes_on xs ys (said (Ok u)) (said q) (rw is at tried) refl more
