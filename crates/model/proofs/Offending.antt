-- The set that a reason names: the lowest attribute that offends, or the tied set with the lowest first attribute among those that fail.
use Prim.Native.Nat.{ℕ, zero, suc, ◌^◌, ◌<◌, ◌≤◌}
use mathlib.Core.Path.{◌≡◌, refl, sym, ap, ◌∙◌}
use mathlib.Core.Bool.{Bool, true, false}
use mathlib.Core.Logic.{◌⊎◌, inl, inr, ⊎_elim, ◌↔◌}
use native.Mathlib.Nat.{lt_of_not-le, pos_of_ne-zero}
use native.Mathlib.Omega.{arith}
use lib.Dec.{eqb}
use lib.ListN.{get_or}
use borrow.Author.Tests.{eqb-true, eqb-false}
use Rattle.std.specs.Prelude.{if◌then◌else◌}
use Rattle.laws.specs.First.{first}
use Rattle.laws.proofs.Cases.{clash}
use Rattle.laws.proofs.First.{first_below, first_holds}
use Rattle.sets.specs.Sets.{In, Within, union, within, lowest}
use Rattle.sets.proofs.Members.{same_members, in_union, in_minus, in_meet, within_exactly, in_none}
use Rattle.sets.proofs.Words.{in_single, lowest_in, lowest_low, members_lt, some_member}
use Rattle.night.specs.Night.{Night, node_of}
use Rattle.night.specs.Kinds.{attribute, visible}
use Rattle.night.specs.Promised.{Promised}
use Rattle.night.proofs.Visible.{OfOperand, at_operand, step_uses_left, visible_below, reads_operand}
use Rattle.model.specs.declared.Table.{Table}
use Rattle.model.specs.Ties.{Classes}
use Rattle.model.specs.Tables.{shown, least_view, tests, table_of, TiedAt}
use Rattle.model.specs.Candidates.{clear_offends, sealed_offends, tied_offends, ClearHolds, SealedHolds, TiedHolds}
use Rattle.model.specs.Reasons.{looked_at, offending, out, Holds, Looked, LowestAlone, Split, FirstTied, Named, OutExactly}
use Rattle.model.proofs.Chains.{chain_join, chain_back, in_word}
use Rattle.model.proofs.Lowest.{not_below}
use Rattle.model.proofs.Meaning.{tied_meaning}
use Rattle.model.proofs.Reasons.{stands_out, first_named}
use Rattle.model.proofs.Sees.{clear_lies, sealed_lies, tied_whole, tied_lies}
use Rattle.model.proofs.Shown.{shown_visible, tests_read, leaf_tested, leaf_hidden, step_tested, step_hidden}

-- the lowest member, alone
lowest_alone : (S : ℕ) → S < 2 ^ 64 → (S ≡ 0 → ⊥) → LowestAlone (λ j. In j S) (attribute (lowest 64 S))
lowest_alone S small some =
    let here : In (lowest 64 S) S = lowest_in 64 S small (pos_of_ne-zero some) in
    record {
      lowest = lowest 64 S;
      offends = here;
      none_lower = λ j h. not_below (λ l. lowest_low 64 S j l h);
      alone = λ j. (λ h. ((in_single 64 j (lowest 64 S)).0 h).0, λ e. (in_single 64 j (lowest 64 S)).1 (e, in_word S (lowest 64 S) small here));
    }

-- said by another test of the same members
same_alone : {A B : ℕ → Type 0} {set : ℕ} → ((j : ℕ) → A j ↔ B j) → LowestAlone A set → LowestAlone B set
same_alone f w = record { lowest = w.lowest; offends = (f w.lowest).0 w.offends; none_lower = λ j h. w.none_lower j ((f j).1 h); alone = w.alone }

-- a tied set that offends lies neither in P nor in E, and the other way round
module _ (t : Table) (P E : ℕ) where
  offends_split : (k : ℕ) → tied_offends t P E k ≡ true → Split (get_or t.tied k 0) P E
  unfolding tied_offends
  offends_split k e = go (within m P) (within m E) refl refl e
    where
      m : ℕ
      m = get_or t.tied k 0

      go : (x y : Bool) → within m P ≡ x → within m E ≡ y → (if x then false else if y then false else true) ≡ true → Split m P E
      go true y p q e = absurd (clash (sym e))
      go false true p q e = absurd (clash (sym e))
      go false false p q e = (λ w. clash (sym ((within_exactly m P).1 w) ∙ p), λ w. clash (sym ((within_exactly m E).1 w) ∙ q))

  split_offends : (k : ℕ) → Split (get_or t.tied k 0) P E → tied_offends t P E k ≡ false → ⊥
  split_offends k s e = ⊎_elim s.0 s.1 (tied_whole t P E k e)

  -- the first attribute whose tied set offends begins the tied set that is named
  first_tied : (T : ℕ → Type 0) → Classes T t.tied → (TiedHolds t P E → ⊥) → FirstTied t P E (get_or t.tied (first (tied_offends t P E) 64) 0)
  first_tied T c fails =
      record {
        first = k;
        its_first = its_first;
        whole = refl;
        fails = split;
        none_lower = λ j m s h. not_below (λ l. split_offends m (split_alike j m h s) (first_below (tied_offends t P E) 64 m l));
      }
    where
      k : ℕ
      k = first (tied_offends t P E) 64

      low : k < 64
      low = lt_of_not-le (λ past. fails (λ j l. first_below (tied_offends t P E) 64 j (omega (arith, past))))

      split : Split (get_or t.tied k 0) P E
      split = offends_split k (first_holds (tied_offends t P E) 64 low)

      -- it has some attribute, or it would lie in P, and so its own
      its_first : In k (get_or t.tied k 0)
      its_first =
          let w = some_member (get_or t.tied k 0) (λ e. split.0 (λ j h. absurd (in_none j (rw e at h)))) in
          let some = c.linked k w.0 w.1 in
          c.held k k (chain_join some (chain_back some))

      -- the tied sets of two attributes that are tied fail alike
      split_alike : (j m : ℕ) → In m (get_or t.tied j 0) → Split (get_or t.tied j 0) P E → Split (get_or t.tied m 0) P E
      split_alike j m h s = (same P s.0, same E s.1)
        where
          same : (S : ℕ) → (Within (get_or t.tied j 0) S → ⊥) → Within (get_or t.tied m 0) S → ⊥
          same S out w = out (λ x g. w x (c.held m x (chain_join (chain_back (c.linked j m h)) (c.linked j x g))))

-- every attribute of a node's table is below 64
module _ (N : Night) (sound : Promised N) where
  abbrev n : ℕ
  n = N.header.nodes

  -- of a step's operand, where it follows at every lower node
  of_lower : (i : ℕ) (l : i < n) (s : (node_of N i).kind ≡ 0 → ⊥) {Q : ℕ → Type 0} {A : Type 0} → ((c : ℕ) → c < i → Q c → A) → OfOperand N i Q → A
  of_lower i l s f = at_operand N sound i l s {H = λ c. Unit {0}} tt (λ u. tt) (λ c b _. f c b)

  shown_below : (i a : ℕ) → i < n → In a (visible N i) → a < 64
  shown_below i a l h = omega (arith, visible_below N sound i a l h, sound.counts.attributes_most)

  -- of an implicit part: empty at a leaf, and at a step what an operand has there or the step tests
  implicit_below : (part : Table → ℕ) → ((i : ℕ) → i < n → (node_of N i).kind ≡ 0 → part (table_of N i) ≡ 0)
      → ((i a : ℕ) → i < n → ((node_of N i).kind ≡ 0 → ⊥) → In a (part (table_of N i)) → OfOperand N i (λ c. In a (part (table_of N c))) ⊎ In a (tests (node_of N i)))
      → (m i a : ℕ) → i < m → i < n → In a (part (table_of N i)) → a < 64
  implicit_below part leaf step zero i a q l h = absurd (omega arith)
  implicit_below part leaf step (suc m) i a q l h = go (eqb (node_of N i).kind 0) refl (λ c b. implicit_below part leaf step m c a (omega arith) (omega arith))
    where
      go : (b : Bool) → eqb (node_of N i).kind 0 ≡ b → ((c : ℕ) → c < i → In a (part (table_of N c)) → a < 64) → a < 64
      go true e lower = absurd (in_none a (rw (leaf i l (eqb-true (node_of N i).kind 0 e)) at h))
      go false e lower =
          let s = eqb-false (node_of N i).kind 0 e in
          ⊎_elim (of_lower i l s lower) (λ t. of_lower i l s (λ c b. shown_below c a (omega arith)) (reads_operand N sound i l s a (tests_read N (node_of N i) a t))) (step i a l s h)

  tested_below : (i a : ℕ) → i < n → In a (table_of N i).tested → a < 64
  tested_below i a l =
      implicit_below (λ t. t.tested) (leaf_tested N sound) (λ i a l s h. ⊎_elim inl (λ w. inr w.0) ((step_tested N sound i l s a).0 h)) (suc i) i a (omega arith) l

  hidden_below : (i a : ℕ) → i < n → In a (table_of N i).hidden → a < 64
  hidden_below i a l =
      implicit_below (λ t. t.hidden) (leaf_hidden N sound) (λ i a l s h. ⊎_elim inl (λ w. inr w.0) ((step_hidden N sound i l s a).0 h)) (suc i) i a (omega arith) l

-- a table whose attributes are below 64, and whose tied sets are what some ties link
pub record Fair (T : ℕ → Type 0) (t : Table) : Type 0 where
  pub clear : (a : ℕ) → In a t.clear → a < 64
  pub sealed : (a : ℕ) → In a t.sealed → a < 64
  pub tested : (a : ℕ) → In a t.tested → a < 64
  pub hidden : (a : ℕ) → In a t.hidden → a < 64
  pub classes : Classes T t.tied

-- the set that goes with the condition that fails
module _ (T : ℕ → Type 0) (t : Table) (fair : Fair T t) (P E : ℕ) where
  by_clear : (ClearHolds t P E → ⊥) → LowestAlone (λ j. (In j t.clear ⊎ In j t.tested) × (In j P → ⊥)) (attribute (lowest 64 (clear_offends t P E)))
  unfolding clear_offends
  by_clear fails =
      let members = in_minus (union t.clear t.tested) P in
      let parts = in_union t.clear t.tested in
      same_alone (λ j. (λ h. let w = (members j).0 h in ((parts j).0 w.0, w.1), λ w. (members j).1 ((parts j).1 w.0, w.1)))
      (lowest_alone _ (members_lt 64 _ (λ j h. ⊎_elim (fair.clear j) (fair.tested j) ((parts j).0 ((members j).0 h).0))) fails)

  by_sealed : (SealedHolds t P E → ⊥) → LowestAlone (λ j. (In j t.sealed ⊎ In j t.hidden) × (In j P → ⊥) × (In j E → ⊥)) (attribute (lowest 64 (sealed_offends t P E)))
  unfolding sealed_offends
  by_sealed fails =
      let members = in_minus (union t.sealed t.hidden) (union P E) in
      let parts = in_union t.sealed t.hidden in
      same_alone (λ j. (
        λ h. let w = (members j).0 h in ((parts j).0 w.0, λ p. w.1 ((in_union P E j).1 (inl p)), λ e. w.1 ((in_union P E j).1 (inr e))),
        λ w. (members j).1 ((parts j).1 w.0, λ h. ⊎_elim w.1 w.2 ((in_union P E j).0 h)),
      ))
      (lowest_alone _ (members_lt 64 _ (λ j h. ⊎_elim (fair.sealed j) (fair.hidden j) ((parts j).0 ((members j).0 h).0))) fails)

  named_by : (c : ℕ) → (Holds c t P E → ⊥) → Named t P E c (offending t P E c)
  unfolding offending
  named_by c fails = (
    λ e. rw e (by_clear (λ h. fails (λ _. (clear_lies t P E).0 h, λ f. absurd (omega arith), λ f. absurd (omega arith)))),
    λ e. rw e (by_sealed (λ h. fails (λ f. absurd (omega arith), λ _. (sealed_lies t P E).0 h, λ f. absurd (omega arith)))),
    λ e. rw e (first_tied t P E T fair.classes (λ h. fails (λ f. absurd (omega arith), λ f. absurd (omega arith), λ _. (tied_lies t P E).0 h))),
  )

-- there is one such set alone
alone_once : {A : ℕ → Type 0} {set other : ℕ} → LowestAlone A set → LowestAlone A other → set ≡ other
alone_once w u =
    let same : w.lowest ≡ u.lowest = omega (arith, w.none_lower u.lowest u.offends, u.none_lower w.lowest w.offends) in
    same_members _ _ (λ k h. (u.alone k).1 ((w.alone k).0 h ∙ same)) (λ k h. (w.alone k).1 ((u.alone k).0 h ∙ sym same))

no_later : {t : Table} {P E set other : ℕ} (w : FirstTied t P E set) (u : FirstTied t P E other) → w.first ≤ u.first
no_later w u = w.none_lower u.first u.first (rw u.whole at u.fails) (rw u.whole at u.its_first)

tied_once : {t : Table} {P E set other : ℕ} → FirstTied t P E set → FirstTied t P E other → set ≡ other
tied_once {t} w u =
    let same : w.first ≡ u.first = omega (arith, no_later w u, no_later u w) in
    w.whole ∙ ap (λ (k : ℕ). get_or t.tied k 0) same ∙ sym u.whole

named_once : {t : Table} {P E set other : ℕ} (c : ℕ) → (Holds c t P E → ⊥) → Named t P E c set → Named t P E c other → set ≡ other
named_once zero fails w u = absurd (fails (λ e. absurd (omega arith), λ e. absurd (omega arith), λ e. absurd (omega arith)))
named_once (suc zero) fails w u = alone_once (w.0 refl) (u.0 refl)
named_once (suc (suc zero)) fails w u = alone_once (w.1 refl) (u.1 refl)
named_once (suc (suc (suc zero))) fails w u = tied_once (w.2 refl) (u.2 refl)
named_once (suc (suc (suc (suc c)))) fails w u = absurd (fails (λ e. absurd (omega arith), λ e. absurd (omega arith), λ e. absurd (omega arith)))

-- a least view is as fair as its table
view_fair : (T : ℕ → Type 0) (needed : ℕ) (t : Table) → Fair T t → Fair T (least_view needed t)
unfolding least_view
view_fair T needed t fair =
    record {
      clear = λ a h. below a ((in_meet needed (shown t) a).0 h).1;
      sealed = λ a h. below a ((in_minus (shown t) needed a).0 h).0;
      tested = fair.tested;
      hidden = fair.hidden;
      classes = fair.classes;
    }
  where
    below : (a : ℕ) → In a (shown t) → a < 64
    below a h = ⊎_elim (fair.clear a) (fair.sealed a) ((in_union t.clear t.sealed a).0 h)

-- the tables that are looked at are fair
module _ (N : Night) (sound : Promised N) where
  table_fair : (c : ℕ) → c < N.header.nodes → Fair (TiedAt N c) (table_of N c)
  table_fair c l =
      let below : (a : ℕ) → In a (shown (table_of N c)) → a < 64 = λ a h. shown_below N sound c a l (rw (shown_visible N sound c l) at h) in
      record {
        clear = λ a h. below a ((in_union (table_of N c).clear (table_of N c).sealed a).1 (inl h));
        sealed = λ a h. below a ((in_union (table_of N c).clear (table_of N c).sealed a).1 (inr h));
        tested = λ a. tested_below N sound c a l;
        hidden = λ a. hidden_below N sound c a l;
        classes = tied_meaning N sound c l;
      }

  -- so each reason is named as it should be
  module _ (i : ℕ) (l : i < N.header.nodes) (s : (node_of N i).kind ≡ 0 → ⊥) (P E : ℕ) where
    left_lower : (node_of N i).left < i
    left_lower = (sound.node i l).left_lower (step_uses_left (node_of N i).kind s)

    looked_named : (k c : ℕ) → Looked N i k → (Holds c (looked_at N i k) P E → ⊥) → Named (looked_at N i k) P E c (offending (looked_at N i k) P E c)
    unfolding looked_at
    looked_named k c (inl e) fails = rw e (named_by _ _ (view_fair _ (node_of N i).needed _ (table_fair (node_of N i).left (omega (arith, left_lower)))) P E c (rw e at fails))
    looked_named k c (inr (inl (e, u))) fails =
        rw e (named_by _ _ (view_fair _ (node_of N i).needed _ (table_fair (node_of N i).right (omega (arith, (sound.node i l).right_lower u)))) P E c (rw e at fails))
    looked_named k c (inr (inr e)) fails = rw e (named_by _ _ (table_fair i l) P E c (rw e at fails))

pub out_exactly : OutExactly
out_exactly N sound i l s P E k c set = (
  λ e.
      let w = stands_out N i P E k c set e in
      (w.0, rw w.1 (looked_named N sound i l s P E k c w.0.looked w.0.fails)),
  λ w.
      first_named N i P E k c w.0
      ∙ ap (out k c) (named_once c w.0.fails (looked_named N sound i l s P E k c w.0.looked w.0.fails) w.1),
)
