-- A row of trials and its verdict: the first trial that fails refuses, with its number and its place.
use Rattle.std.specs.Prelude.{ℕ, zero, suc, ◌<◌, ◌≡◌, Bool, true, false, List, [], ◌∷◌, ◌++◌, ◌↔◌, length, get_or, if◌then◌else◌}

-- a test that may fail, and the number and place with which its failure refuses
pub record Trial : Type 0 where
  pub fails : Bool
  pub number : ℕ
  pub place : ℕ

abbrev pub trial : Bool → ℕ → ℕ → Trial
trial b n p = record { fails = b; number = n; place = p }

-- what an entry says: it answers with values, or refuses with a number and a place
pub data Says (A : Type 0) : Type 0 where
  answers : A → Says A
  refuses : ℕ → ℕ → Says A

-- the verdict: the first trial that fails refuses; where none does, the answer
unfoldable pub verdict : {A : Type 0} → List Trial → A → Says A
verdict [] a = answers a
verdict (t ∷ ts) a = if t.fails then refuses t.number t.place else verdict ts a

-- the trials of 0, then those of 1, and so on below n
unfoldable pub rows : ℕ → (ℕ → List Trial) → List Trial
rows zero f = []
rows (suc n) f = rows n f ++ f n

-- every trial passes
abbrev pub Passes : List Trial → Type 0
Passes [] = Unit {0}
Passes (t ∷ ts) = (t.fails ≡ false) × Passes ts

-- a trial with this number and place fails, and every earlier one passes
pub record FirstToFail (ts : List Trial) (number place : ℕ) : Type 0 where
  pub index : ℕ
  pub within : index < length ts
  pub here : get_or ts index (trial false 0 0) ≡ trial true number place
  pub earlier : (j : ℕ) → j < index → (get_or ts j (trial false 0 0)).fails ≡ false

-- a row refuses with a number and a place exactly when that trial is the first to fail
abbrev pub RefusesExactly : Type 1
RefusesExactly = (A : Type 0) (ts : List Trial) (a : A) (n p : ℕ) → (verdict ts a ≡ refuses n p) ↔ FirstToFail ts n p

-- a row accepts exactly when every trial passes
abbrev pub AcceptsExactly : Type 1
AcceptsExactly = (A : Type 0) (ts : List Trial) (a : A) → (verdict ts a ≡ answers a) ↔ Passes ts

-- small rows: of two trials that fail the first refuses, with its own number and place; the trials of 0, 1 and 2 stand in this order
pub record SmallRows : Type 0 where
  pub first_refuses : verdict (trial false 1 2 ∷ trial true 3 4 ∷ trial true 5 6 ∷ []) (tt {0}) ≡ refuses 3 4
  pub none_refuses : verdict (trial false 1 2 ∷ []) (tt {0}) ≡ answers tt
  pub in-order : rows 3 (λ i. trial false i i ∷ []) ≡ trial false 0 0 ∷ trial false 1 1 ∷ trial false 2 2 ∷ []
