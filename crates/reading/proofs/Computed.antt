-- Which number is which, by computation.
use Prim.Native.Nat.{ℕ}
use mathlib.Core.Path.{◌≡◌, refl}
use native.Mathlib.Omega.{arith}
use Rattle.reading.specs.Answers.{ToldNumbers}

pub told_numbers : ToldNumbers
told_numbers = record {
  told = refl;
  number = λ e. let z : ◌≡◌ {A = ℕ} 6 5 = cc in omega arith;
  place = λ e. let z : ◌≡◌ {A = ℕ} 3 2 = cc in omega arith;
}
