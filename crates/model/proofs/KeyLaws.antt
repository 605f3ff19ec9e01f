-- The keys of the run: attributes that a chain of ties links share one, and who opens one of them holds it.
use Prim.Native.Nat.{ℕ, ◌<◌, ◌≤◌}
use mathlib.Core.Path.{◌≡◌, refl, sym, ap}
use mathlib.Core.Bool.{Bool, true, false}
use mathlib.Core.List.{List, [], ◌∷◌, ◌++◌, append-nil}
use mathlib.Core.Logic.{◌⊎◌, inl, inr, ⊎_elim, ◌↔◌}
use native.Mathlib.Nat.{lt_of_not-le}
use native.Mathlib.Omega.{arith}
use Rattle.std.specs.Prelude.{if◌then◌else◌}
use Rattle.sets.specs.Sets.{In, union, apart, single, lowest}
use Rattle.sets.proofs.Members.{same_members, in_member, in_union, in_meet, in_none, apart_exactly}
use Rattle.sets.proofs.Words.{in_single, lowest_in, members_lt}
use Rattle.night.specs.Versions.{delivers}
use Rattle.night.specs.Night.{Night}
use Rattle.night.specs.Kinds.{attribute}
use Rattle.night.specs.Promised.{Promised}
use Rattle.run.specs.Linked.{Chain}
use Rattle.run.specs.Keys.{Plan, Event, events, ever_sealed, group_of, key_name, holders_of, key_holders}
use Rattle.run.specs.Run.{Some, reached, key_of, delivered, sealed_in, deliveries, all_events, holders}
use Rattle.model.proofs.Chains.{chain_join, chain_back, chain_low}
use Rattle.model.proofs.Together.{some_append, some_each}
use Rattle.model.proofs.Keyed.{ever_idle}
use Rattle.model.proofs.Reached.{TiedBelow, tied_low, reached_exactly}

-- what an event seals is sealed; who opens one of a group holds its key
ever_some : (a : ℕ) (es : List Event) → Some (λ e. In a e.sealed) es → In a (ever_sealed es)
unfolding ever_sealed
ever_some a [] h = absurd h
ever_some a (e ∷ es) h = (in_union e.sealed (ever_sealed es) a).1 (⊎_elim inl (λ q. inr (ever_some a es q)) h)

abbrev Opens : ℕ → ℕ → Event → Type 0
Opens q a e = (e.subject ≡ q) × In a e.opened

holds_some : (q a group : ℕ) (es : List Event) → q < 16 → In a group → Some (Opens q a) es → In q (holders_of es group)
unfolding holders_of
holds_some q a group [] l g h = absurd h
holds_some q a group (e ∷ es) l g h = (in_union _ (holders_of es group) q).1 (⊎_elim (λ w. inl (own w.0 w.1)) (λ w. inr (holds_some q a group es l g w)) h)
  where
    own : e.subject ≡ q → In a e.opened → In q (if apart group (union e.opened e.sealed) then 0 else single 16 e.subject)
    own same o = go (apart group (union e.opened e.sealed)) refl
      where
        go : (b : Bool) → apart group (union e.opened e.sealed) ≡ b → In q (if b then 0 else single 16 e.subject)
        go true x = absurd ((apart_exactly group (union e.opened e.sealed)).0 x a g ((in_union e.opened e.sealed a).1 (inl o)))
        go false x = rw same ((in_single 16 q q).1 (refl, l))

module _ (N : Night) (sound : Promised N) (p : Plan) where
  abbrev n : ℕ
  n = N.header.nodes

  -- all that the plan seals
  abbrev pub ever : ℕ
  ever = ever_sealed (events N p)

  pub seals_ever : (j a : ℕ) → j < n → In a (p.seals j) → In a ever
  unfolding events
  seals_ever j a l h = ever_some a _ (some_each (λ e. In a e.sealed) _ j n l h)

  -- who shares the key of a sealed attribute
  Shares : ℕ → ℕ → Type 0
  Shares k j = In j ever × (In j (attribute k) ⊎ Chain (TiedBelow N n) k j)

  group_exactly : (k j : ℕ) → In k ever → In j (group_of (reached N) (events N p) k) ↔ Shares k j
  unfolding group_of Shares
  group_exactly k j h =
      rw (in_member ever k h) (
        λ q.
            let w = (in_meet ever (union (attribute k) (reached N k)) j).0 q in
            (w.0, ⊎_elim inl (λ r. (reached_exactly N sound k j).0 r) ((in_union (attribute k) (reached N k) j).0 w.1)),
        λ q. (in_meet ever (union (attribute k) (reached N k)) j).1 (q.0, (in_union (attribute k) (reached N k) j).1 (⊎_elim inl (λ r. inr ((reached_exactly N sound k j).1 (inr r))) q.1)),
      )

  shares_back : (a b j : ℕ) → Chain (TiedBelow N n) a b → Shares a j → Shares b j
  unfolding Shares
  shares_back a b j c q = (
    q.0,
    inr
        (⊎_elim
        (λ r.
        let same : j ≡ a = ((in_single 64 j a).0 r).0 in
        rw same (chain_back c))
        (λ r. chain_join (chain_back c) r) q.1),
  )

  -- linked attributes have the same key
  pub same_key : (a b : ℕ) → In a ever → In b ever → Chain (TiedBelow N n) a b → key_of N p a ≡ key_of N p b
  unfolding key_of key_name
  same_key a b ha hb c =
      ap (λ (s : ℕ). lowest 64 s)
      (same_members (group_of (reached N) (events N p) a) (group_of (reached N) (events N p) b)
      (λ j q. (group_exactly b j hb).1 (shares_back a b j c ((group_exactly a j ha).0 q)))
      (λ j q. (group_exactly a j ha).1 (shares_back b a j (chain_back c) ((group_exactly b j hb).0 q))))

  -- a sealed attribute is in the group that its key names
  key_group : (a : ℕ) → In a ever → a < 64 → In a (group_of (reached N) (events N p) (key_of N p a))
  unfolding key_of key_name Shares
  key_group a h l =
      let key = lowest 64 group in
      let low = members_lt 64 group (λ j q. small j ((group_exactly a j h).0 q).1) in
      let w : Shares a key = (group_exactly a key h).0 (lowest_in 64 group low (lt_of_not-le (λ g. in_none a (rw (none g) at inside)))) in
      (group_exactly key a w.0).1 (h, ⊎_elim (λ r. inl ((in_single 64 a key).1 (sym ((in_single 64 key a).0 r).0, small key w.1))) (λ r. inr (chain_back r)) w.1)
    where
      group : ℕ
      group = group_of (reached N) (events N p) a

      inside : In a group
      inside = (group_exactly a a h).1 (h, inl ((in_single 64 a a).1 (refl, l)))

      none : group ≤ 0 → group ≡ 0
      none g = omega arith

      small : (j : ℕ) → In j (attribute a) ⊎ Chain (TiedBelow N n) a j → j < 64
      small j = ⊎_elim (λ r. omega (arith, ((in_single 64 j a).0 r).0)) (λ r. chain_low (tied_low N sound) (chain_back r))

  -- the delivery seals nothing, so groups are as without it
  same_ever : ever_sealed (all_events N p) ≡ ever
  unfolding all_events deliveries
  same_ever = go (delivers N.header.version)
    where
      go : (b : Bool) → ever_sealed (events N p ++ (if b then record { subject = N.header.user; opened = sealed_in N (delivered N p); sealed = 0 } ∷ [] else [])) ≡ ever
      go true = ever_idle (events N p) _ refl
      go false = ap ever_sealed (append-nil (events N p))

  same_group : (k : ℕ) → group_of (reached N) (all_events N p) k ≡ group_of (reached N) (events N p) k
  unfolding group_of
  same_group k = rw same_ever refl

  -- who opens one of a group in some event holds that key
  event_held : (q a : ℕ) → q < 16 → In a ever → a < 64 → Some (Opens q a) (all_events N p) → In q (holders N p (key_of N p a))
  unfolding holders key_holders
  event_held q a few e low h = holds_some q a _ _ few (rw (same_group (key_of N p a)) (key_group a e low)) h

  pub opens_held : (i a : ℕ) → i < n → p.subject i < 16 → In a (p.opens i) → In a ever → a < 64 → In (p.subject i) (holders N p (key_of N p a))
  unfolding events all_events
  opens_held i a l few h e low =
      event_held (p.subject i) a few e low ((some_append (Opens (p.subject i) a) (events N p) (deliveries N p)).1 (inl (some_each (Opens (p.subject i) a) _ i n l (refl, h))))

  -- so does the user who opens it at the delivery
  pub user_held : (a : ℕ) → delivers N.header.version ≡ true → N.header.user < 16 → In a (sealed_in N (delivered N p)) → In a ever → a < 64 → In N.header.user (holders N p (key_of N p a))
  unfolding all_events deliveries
  user_held a d few h e low =
      event_held N.header.user a few e low ((some_append (Opens N.header.user a) (events N p) (deliveries N p)).1 (inr (rw d (inl (refl, h)))))
