-- What a verdict says of its row, for any row; rows one after the other; a loop over them.
use Prim.Native.Nat.{ℕ, zero, suc, ◌+◌, ◌<◌, suc-le-suc}
use mathlib.Core.Path.{◌≡◌, refl, sym, ap, ◌∙◌}
use mathlib.Core.Bool.{Bool, true, false}
use mathlib.Core.List.{List, [], ◌∷◌, ◌++◌}
use native.Mathlib.Numerals.{add-one}
use native.Mathlib.Omega.{arith}
use native.Mathlib.Decide.{le_ind}
use lib.ListN.{length, get_or}
use Rattle.std.specs.Prelude.{if◌then◌else◌}
use Rattle.laws.specs.First.{first}
use Rattle.laws.proofs.First.{first_below, first_holds}
use Rattle.laws.specs.Trials.{Trial, trial, Says, answers, refuses, verdict, rows, Passes, FirstToFail, RefusesExactly, AcceptsExactly}

-- a refusal is no answer
pub never : {A : Type 0} (a : A) (n p : ℕ) → refuses n p ≡ answers a → ⊥
never a n p e = let z : ◌≡◌ {A = ℕ} 0 1 = cc in omega arith

-- an answer: every trial passed, and the answer is the one given
pub passed : {A : Type 0} (ts : List Trial) (a b : A) → verdict ts a ≡ answers b → Passes ts × (a ≡ b)
unfolding verdict
passed [] a b e = (tt, cc)
passed (t ∷ ts) a b e = go t.fails refl e (passed ts a b)
  where
    go : (x : Bool) → t.fails ≡ x → (if x then refuses t.number t.place else verdict ts a) ≡ answers b
        → (verdict ts a ≡ answers b → Passes ts × (a ≡ b)) → ((t.fails ≡ false) × Passes ts) × (a ≡ b)
    go true h q more = absurd (never b _ _ q)
    go false h q more = ((h, (more q).0), (more q).1)

pub passes_accepts : {A : Type 0} (ts : List Trial) (a : A) → Passes ts → verdict ts a ≡ answers a
unfolding verdict
passes_accepts [] a h = refl
passes_accepts (t ∷ ts) a h = rw h.0 (passes_accepts ts a h.1)

pub accepts_exactly : AcceptsExactly
accepts_exactly A ts a = (λ e. (passed ts a a e).0, passes_accepts ts a)

-- rows one after the other
pub passed_then : {A B : Type 0} (xs ys : List Trial) (a : A) (b : B) → verdict xs a ≡ answers a → verdict (xs ++ ys) b ≡ verdict ys b
unfolding verdict
passed_then [] ys a b e = refl
passed_then (t ∷ xs) ys a b e =
    let h : Passes (t ∷ xs) = (passed (t ∷ xs) a a e).0 in
    rw h.0 (passed_then xs ys a b (passes_accepts xs a h.1))

pub refused_then : {A B : Type 0} (xs ys : List Trial) (a : A) (b : B) (n p : ℕ) → verdict xs a ≡ refuses n p → verdict (xs ++ ys) b ≡ refuses n p
unfolding verdict
refused_then [] ys a b n p e = absurd (never a n p (sym e))
refused_then (t ∷ xs) ys a b n p e = go t.fails e (refused_then xs ys a b n p)
  where
    go : (x : Bool) → (if x then refuses t.number t.place else verdict xs a) ≡ refuses n p
        → (verdict xs a ≡ refuses n p → verdict (xs ++ ys) b ≡ refuses n p)
        → (if x then refuses t.number t.place else verdict (xs ++ ys) b) ≡ refuses n p
    go true q more = cc
    go false q more = more q

-- a part of the code tries the first rows, and goes on only where they pass: what it answers in each case
pub stops_at : (xs ys : List Trial) (r : Says (Unit {0})) (n p : ℕ) → r ≡ verdict xs tt → r ≡ refuses n p → r ≡ verdict (xs ++ ys) tt
stops_at xs ys r n p e f = f ∙ sym (refused_then xs ys tt tt n p (sym e ∙ f))

pub goes_on : (xs ys : List Trial) (r q : Says (Unit {0})) → r ≡ verdict xs tt → r ≡ answers tt → q ≡ verdict ys tt → q ≡ verdict (xs ++ ys) tt
goes_on xs ys r q e f g = g ∙ sym (passed_then xs ys tt tt (sym e ∙ f))

pub passes_append : (xs ys : List Trial) → Passes (xs ++ ys) → Passes xs × Passes ys
passes_append [] ys h = (tt, h)
passes_append (t ∷ xs) ys h = ((h.0, (passes_append xs ys h.1).0), (passes_append xs ys h.1).1)

pub passes-both : (xs ys : List Trial) → Passes xs → Passes ys → Passes (xs ++ ys)
passes-both [] ys h g = g
passes-both (t ∷ xs) ys h g = (h.0, passes-both xs ys h.1 g)

-- every row passes where the rows do
pub passes_row : (f : ℕ → List Trial) (n i : ℕ) → i < n → Passes (rows n f) → Passes (f i)
unfolding rows
passes_row f n i l =
    le_ind (λ (k : ℕ). Passes (rows k f) → Passes (f i)) (λ h. (passes_append (rows i f) (f i) h).1)
    (λ k q more h. more (passes_append (rows k f) (f k) h).0) n l

-- a loop over the rows: it begins; a turn that passes; a turn that fails; it ends
pub rows_none : (f : ℕ → List Trial) → verdict (rows 0 f) (tt {0}) ≡ answers tt
unfolding verdict rows
rows_none f = refl

pub rows_more : (f : ℕ → List Trial) (i : ℕ) → verdict (rows i f) (tt {0}) ≡ answers tt → verdict (f i) (tt {0}) ≡ answers tt
    → verdict (rows (i + 1) f) (tt {0}) ≡ answers tt
unfolding rows
rows_more f i h e = rw add-one (passed_then (rows i f) (f i) tt tt h ∙ e)

pub rows_found : (f : ℕ → List Trial) (i m n p : ℕ) → verdict (rows i f) (tt {0}) ≡ answers tt → verdict (f i) (tt {0}) ≡ refuses n p → i < m
    → verdict (rows m f) (tt {0}) ≡ refuses n p
unfolding rows
rows_found f i m n p h e l =
    le_ind (λ (k : ℕ). verdict (rows k f) (tt {0}) ≡ refuses n p) (passed_then (rows i f) (f i) tt tt h ∙ e)
    (λ k q r. refused_then (rows k f) (f k) tt tt n p r) m l

pub rows_all : (f : ℕ → List Trial) (i n : ℕ) → verdict (rows i f) (tt {0}) ≡ answers tt → i ≡ n → verdict (rows n f) (tt {0}) ≡ answers tt
rows_all f i n h e = rw e at h

-- the first trial to fail, of a row with one more trial before it
later : (t : Trial) (ts : List Trial) (n p : ℕ) → t.fails ≡ false → FirstToFail ts n p → FirstToFail (t ∷ ts) n p
later t ts n p e w = record { index = suc w.index; within = suc-le-suc w.within; here = w.here; earlier = before }
  where
    before : (j : ℕ) → j < suc w.index → (get_or (t ∷ ts) j (trial false 0 0)).fails ≡ false
    before zero l = e
    before (suc j) l = w.earlier j (omega arith)

to : {A : Type 0} (ts : List Trial) (a : A) (n p : ℕ) → verdict ts a ≡ refuses n p → FirstToFail ts n p
unfolding verdict
to [] a n p e = absurd (never a n p (sym e))
to (t ∷ ts) a n p e = go t.fails refl e (to ts a n p)
  where
    go : (x : Bool) → t.fails ≡ x → (if x then refuses t.number t.place else verdict ts a) ≡ refuses n p
        → (verdict ts a ≡ refuses n p → FirstToFail ts n p) → FirstToFail (t ∷ ts) n p
    go true h q more =
        let same_number : t.number ≡ n = cc in
        let same_place : t.place ≡ p = cc in
        let same : t ≡ trial true n p = λ i. record { fails = h i; number = same_number i; place = same_place i } in
        record { index = 0; within = omega arith; here = same; earlier = λ j l. absurd (omega arith) }
    go false h q more = later t ts n p h (more q)

fro : {A : Type 0} (ts : List Trial) (a : A) (n p : ℕ) → FirstToFail ts n p → verdict ts a ≡ refuses n p
unfolding verdict
fro [] a n p w = absurd (omega (arith, w.within))
fro (t ∷ ts) a n p w = go w.index refl (fro ts a n p)
  where
    go : (i : ℕ) → w.index ≡ i → (FirstToFail ts n p → verdict ts a ≡ refuses n p) → verdict (t ∷ ts) a ≡ refuses n p
    go zero e more =
        let h : t ≡ trial true n p = rw e at w.here in
        rw h refl
    go (suc i) e more =
        let passes : t.fails ≡ false = w.earlier 0 (omega arith) in
        let here : get_or ts i (trial false 0 0) ≡ trial true n p = rw e at w.here in
        let l : suc i < suc (length ts) = rw e at w.within in
        rw passes (more (record { index = i; within = omega arith; here = here; earlier = λ j k. w.earlier (suc j) (omega arith) }))

pub refuses_exactly : RefusesExactly
refuses_exactly A ts a n p = (to ts a n p, fro ts a n p)

-- the same row with another answer refuses alike and accepts alike
pub refused_alike : {A B : Type 0} (ts : List Trial) (a : A) (b : B) (n p : ℕ) → verdict ts a ≡ refuses n p → verdict ts b ≡ refuses n p
refused_alike {A} {B} ts a b n p e = (refuses_exactly B ts b n p).1 ((refuses_exactly A ts a n p).0 e)

pub accepted_alike : {A B : Type 0} (ts : List Trial) (a c : A) (b : B) → verdict ts a ≡ answers c → verdict ts b ≡ answers b
accepted_alike ts a c b e = passes_accepts ts b (passed ts a c e).0

-- one trial for each number: the first that fails
module _ (p : ℕ → Bool) (m : ℕ) where
  abbrev one : ℕ → List Trial
  one i = trial (p i) m i ∷ []

  pub rows_pass : (i : ℕ) → ((k : ℕ) → k < i → p k ≡ false) → verdict (rows i one) (tt {0}) ≡ answers tt
  unfolding rows
  rows_pass zero h = passes_accepts [] tt tt
  rows_pass (suc i) h =
      passes_accepts (rows i one ++ one i) tt (passes-both (rows i one) (one i) (passed (rows i one) tt tt (rows_pass i (λ k l. h k (omega arith)))).0 (h i (omega arith), tt))

  pub rows_stop : (n : ℕ) → first p n < n → verdict (rows n one) (tt {0}) ≡ refuses m (first p n)
  unfolding verdict
  rows_stop n l = rows_found one (first p n) n m (first p n) (rows_pass (first p n) (first_below p n)) (rw (first_holds p n l) refl) l

-- what holds of number and place of every trial of a row
abbrev pub AllTrials : (ℕ → ℕ → Type 0) → List Trial → Type 0
AllTrials Q [] = Unit {0}
AllTrials Q (t ∷ ts) = Q t.number t.place × AllTrials Q ts

-- holds of the refusal
pub all_refused : {A : Type 0} (Q : ℕ → ℕ → Type 0) (ts : List Trial) (a : A) (n p : ℕ) → AllTrials Q ts → verdict ts a ≡ refuses n p → Q n p
unfolding verdict
all_refused Q [] a n p q e = absurd (never a n p (sym e))
all_refused Q (t ∷ ts) a n p q e = go t.fails e (all_refused Q ts a n p q.1)
  where
    go : (x : Bool) → (if x then refuses t.number t.place else verdict ts a) ≡ refuses n p → (verdict ts a ≡ refuses n p → Q n p) → Q n p
    go true h more =
        let number : t.number ≡ n = cc in
        let place : t.place ≡ p = cc in
        rw (← number, ← place) q.0
    go false h more = more h

pub all_map : (Q R : ℕ → ℕ → Type 0) → ((n p : ℕ) → Q n p → R n p) → (ts : List Trial) → AllTrials Q ts → AllTrials R ts
all_map Q R f [] q = tt
all_map Q R f (t ∷ ts) q = (f t.number t.place q.0, all_map Q R f ts q.1)

pub all_append : (Q : ℕ → ℕ → Type 0) (xs ys : List Trial) → AllTrials Q xs → AllTrials Q ys → AllTrials Q (xs ++ ys)
all_append Q [] ys h g = g
all_append Q (t ∷ xs) ys h g = (h.0, all_append Q xs ys h.1 g)

pub all_rows : (Q : ℕ → ℕ → Type 0) (f : ℕ → List Trial) (n : ℕ) → ((i : ℕ) → i < n → AllTrials Q (f i)) → AllTrials Q (rows n f)
unfolding rows
all_rows Q f zero h = tt
all_rows Q f (suc n) h = all_append Q (rows n f) (f n) (all_rows Q f n (λ i l. h i (omega arith))) (h n (omega arith))

-- rows that say the same, one after the other
pub append_alike : (xs ys zs ws : List Trial) → verdict xs (tt {0}) ≡ verdict ys tt → verdict zs (tt {0}) ≡ verdict ws tt → verdict (xs ++ zs) (tt {0}) ≡ verdict (ys ++ ws) tt
append_alike xs ys zs ws first second = go (verdict xs tt) refl
  where
    go : (r : Says (Unit {0})) → verdict xs tt ≡ r → verdict (xs ++ zs) (tt {0}) ≡ verdict (ys ++ ws) tt
    go (answers tt) e = passed_then xs zs tt tt e ∙ second ∙ sym (passed_then ys ws tt tt (sym first ∙ e))
    go (refuses n p) e = refused_then xs zs tt tt n p e ∙ sym (refused_then ys ws tt tt n p (sym first ∙ e))

-- and answer alike, where what they would answer is the same
pub answers_alike : {A : Type 0} (xs ys : List Trial) (a b : A) → verdict xs (tt {0}) ≡ verdict ys tt → a ≡ b → verdict xs a ≡ verdict ys b
answers_alike xs ys a b same e = go (verdict xs tt) refl
  where
    go : (r : Says (Unit {0})) → verdict xs tt ≡ r → verdict xs a ≡ verdict ys b
    go (answers tt) q = accepted_alike xs tt tt a q ∙ ap answers e ∙ sym (accepted_alike ys tt tt b (sym same ∙ q))
    go (refuses n p) q = refused_alike xs tt a n p q ∙ sym (refused_alike ys tt b n p (sym same ∙ q))
