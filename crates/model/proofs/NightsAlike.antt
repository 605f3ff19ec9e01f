-- Nights whose nodes do the same, each in its own words: they have the same tables and candidates, and their plans run alike.
use Prim.Native.Nat.{ℕ, zero, suc, ◌-◌}
use mathlib.Core.Path.{◌≡◌, refl, sym, subst, ◌∙◌}
use mathlib.Core.Bool.{Bool, true, false, not}
use mathlib.Core.List.{List, [], ◌∷◌, ◌++◌, map, map-append}
use mathlib.Core.Logic.{⊎_elim, inl, inr}
use lib.Dec.{eqb}
use lib.ListN.{get_or, get_or-map}
use borrow.Author.Tests.{eq-eqb, eqb-true}
use Rattle.std.specs.Prelude.{if◌then◌else◌}
use Rattle.laws.specs.Upwards.{each, upwards}
use Rattle.laws.proofs.Upwards.{upwards_same}
use Rattle.sets.specs.Sets.{In, member, single, unions}
use Rattle.night.specs.declared.Header.{Header}
use Rattle.night.specs.declared.Node.{Node}
use Rattle.night.specs.Versions.{delivers}
use Rattle.night.specs.Night.{Night, node_of}
use Rattle.night.specs.Kinds.{a_leaf, uses_left, uses_right, attribute, reads, read_together, visible_after, visible_step, visibles, visible}
use Rattle.night.specs.Views.{clear_of, sealed_of}
use Rattle.run.specs.Keys.{Plan, events, key_name, key_holders}
use Rattle.run.specs.Run.{Form, absent, clear, sealed, Past, Held, tested_by, tied_by, Some, Tested, Tied, spread_over, spread, spread_times, reached, key_of, holders, sealed_under, is_sealed, nothing, leaving, opened_by, together, leaf_held, result_over, arriving, held_step, helds, result_of, left_arrives, right_arrives, left_opened, right_opened, arrived, opened, delivered, received, sealed_in, deliveries, all_events, Stuck, seals_unclear, opens_unsealed, opens_unheld, needs_unclear, mixes, Forbidden, clear_column, clear_test, sealed_column, sealed_test, tied_apart, ForbiddenAt, left-arrives, right-arrives, left-opened, right-opened, result_made, DeliveryFails, user_takes, user_opens, user_unheld, Clean}
use Rattle.model.specs.declared.Table.{Table}
use Rattle.model.specs.Tables.{blank, shown, least_view, tests, ties, result, leaf_table, step_table, table_step, tables, table_of}
use Rattle.model.specs.Candidates.{may, may_take, is_candidate, candidate_set}
use Rattle.model.specs.OnePair.{SameAs}
use Rattle.model.proofs.Chains.{chain_map}
use Rattle.model.proofs.PastLaws.{same_tests, same_ties}

-- a list worked out from entries that are those of another
upwards_map : {X Y : Type 0} (f : X → Y) (g : List X → ℕ → X) (h : List Y → ℕ → Y) → ((before : List X) (i : ℕ) → h (map f before) i ≡ f (g before i)) → (n : ℕ)
    → upwards h n ≡ map f (upwards g n)
unfolding upwards
upwards_map f g h e zero = refl
upwards_map f g h e (suc n) = rw (upwards_map f g h e n, e (upwards g n) n, map-append f (upwards g n) (g (upwards g n) n ∷ [])) refl

-- two nodes that do the same, each in its night
pub record AlikeNodes (A B : Night) (v w : Node) : Type 0 where
  pub leaf : eqb v.kind a_leaf ≡ eqb w.kind a_leaf
  pub uses-right : uses_right v.kind ≡ uses_right w.kind
  pub left : v.left ≡ w.left
  pub right : v.right ≡ w.right
  pub set : v.set ≡ w.set
  pub needed : v.needed ≡ w.needed
  pub shows : (l r : ℕ) → visible_after v l r ≡ visible_after w l r
  pub read : reads A v ≡ reads B w
  pub tested : tests v ≡ tests w
  pub tied : read_together A v ≡ read_together B w

-- headers that say the same to tables and runs: the counts that these look at, the user, and whether there is one
pub record AlikeHeaders (g h : Header) : Type 0 where
  pub subjects : g.subjects ≡ h.subjects
  pub attributes : g.attributes ≡ h.attributes
  pub nodes : g.nodes ≡ h.nodes
  pub user : g.user ≡ h.user
  pub delivering : delivers g.version ≡ delivers h.version

-- nights that differ in such nodes alone, and in what no run and no table looks at
pub record AlikeNights (A B : Night) : Type 0 where
  pub header : AlikeHeaders A.header B.header
  pub clears : (q : ℕ) → clear_of A q ≡ clear_of B q
  pub sealeds : (q : ℕ) → sealed_of A q ≡ sealed_of B q
  pub node : (i : ℕ) → AlikeNodes A B (node_of A i) (node_of B i)

-- a night is like itself, and two nights are alike either way
nodes_self : (A : Night) (v : Node) → AlikeNodes A A v v
nodes_self A v =
    record { leaf = refl; uses-right = refl; left = refl; right = refl; set = refl; needed = refl; shows = λ l r. refl; read = refl; tested = refl; tied = refl }

pub headers_self : (h : Header) → AlikeHeaders h h
headers_self h = record { subjects = refl; attributes = refl; nodes = refl; user = refl; delivering = refl }

headers_back : (g h : Header) → AlikeHeaders g h → AlikeHeaders h g
headers_back g h s =
    record { subjects = sym s.subjects; attributes = sym s.attributes; nodes = sym s.nodes; user = sym s.user; delivering = sym s.delivering }

alike_self : (A : Night) → AlikeNights A A
alike_self A = record { header = headers_self A.header; clears = λ q. refl; sealeds = λ q. refl; node = λ i. nodes_self A (node_of A i) }

nodes_back : (A B : Night) (v w : Node) → AlikeNodes A B v w → AlikeNodes B A w v
nodes_back A B v w s =
    record {
      leaf = sym s.leaf;
      uses-right = sym s.uses-right;
      left = sym s.left;
      right = sym s.right;
      set = sym s.set;
      needed = sym s.needed;
      shows = λ l r. sym (s.shows l r);
      read = sym s.read;
      tested = sym s.tested;
      tied = sym s.tied;
    }

alike_back : (A B : Night) → AlikeNights A B → AlikeNights B A
alike_back A B s =
    record { header = headers_back A.header B.header s.header; clears = λ q. sym (s.clears q); sealeds = λ q. sym (s.sealeds q); node = λ i. nodes_back A B (node_of A i) (node_of B i) (s.node i) }

-- a past with each step's kind as this night has it
abbrev again : Night → Past → Past
again N d = record { node = d.node; kind = (node_of N d.node).kind; read = d.read }

abbrev recast : Night → Held → Held
recast N t = record { column = t.column; past = map (again N) t.past }

module _ (A B : Night) (alike : AlikeNights A B) where
  -- node i in the one night and in the other
  abbrev at : (i : ℕ) → AlikeNodes A B (node_of A i) (node_of B i)
  at i = alike.node i

  left_used : (i : ℕ) → uses_left (node_of A i).kind ≡ uses_left (node_of B i).kind
  unfolding uses_left
  left_used i = λ d. not ((at i).leaf d)

  -- the same is visible
  visible_step_same : (before : List ℕ) (i : ℕ) → visible_step A before i ≡ visible_step B before i
  unfolding visible_step
  visible_step_same before i = (at i).shows _ _ ∙ (λ d. visible_after (node_of B i) (get_or before ((at i).left d) 0) (get_or before ((at i).right d) 0))

  visibles_same : visibles A ≡ visibles B
  unfolding visibles
  visibles_same = upwards_same (visible_step A) (visible_step B) A.header.nodes (λ before i l. visible_step_same before i) ∙ (λ d. upwards (visible_step B) (alike.header.nodes d))

  -- the same tables
  table_step_same : (before : List Table) (i : ℕ) → table_step A before i ≡ table_step B before i
  unfolding table_step leaf_table step_table result ties
  table_step_same before i =
      rw ((at i).shows (shown (get_or before (node_of A i).left blank)) (shown (get_or before (node_of A i).right blank)), (at i).tied, (at i).tested, (at i).leaf, (at i).uses-right, (at i).set, (at i).left, (at i).right, (at i).needed) refl

  tables_same : tables A ≡ tables B
  unfolding tables
  tables_same = upwards_same (table_step A) (table_step B) A.header.nodes (λ before i l. table_step_same before i) ∙ (λ d. upwards (table_step B) (alike.header.nodes d))

  table_same : (i : ℕ) → table_of A i ≡ table_of B i
  unfolding table_of
  table_same i = λ d. get_or (tables_same d) i blank

  -- the same candidates
  take_same : (i c P E : ℕ) → may_take A i c P E ≡ may_take B i c P E
  unfolding may_take
  take_same i c P E = λ d. may (least_view ((at i).needed d) (table_same c d)) P E

  is_same : (i P E : ℕ) → is_candidate A i P E ≡ is_candidate B i P E
  unfolding is_candidate
  is_same i P E =
      rw (take_same i (node_of A i).left P E, take_same i (node_of A i).right P E, table_same i, (at i).left, (at i).right, (at i).leaf, (at i).uses-right) refl

  candidates_same : (i : ℕ) → candidate_set A i ≡ candidate_set B i
  unfolding candidate_set
  candidates_same i = λ d. unions (λ q. if both q d then single 16 q else 0) (alike.header.subjects d)
    where
      both : (q : ℕ) → is_candidate A i (clear_of A q) (sealed_of A q) ≡ is_candidate B i (clear_of B q) (sealed_of B q)
      both q = is_same i (clear_of A q) (sealed_of A q) ∙ (λ d. is_candidate B i (alike.clears q d) (alike.sealeds q d))

  -- the same is tested and tied
  tested_same : (i : ℕ) → tested_by (node_of A i).kind (node_of A i) ≡ tested_by (node_of B i).kind (node_of B i)
  tested_same i = same_tests (node_of A i) ∙ (at i).tested ∙ sym (same_tests (node_of B i))

  tied_same : (i : ℕ) → tied_by A (node_of A i).kind (node_of A i) ≡ tied_by B (node_of B i).kind (node_of B i)
  unfolding ties
  tied_same i = same_ties A (node_of A i) ∙ (at i).tied ∙ sym (same_ties B (node_of B i))

  -- so the same is reached
  spread_same : (n s : ℕ) → spread A n s ≡ spread B n s
  unfolding spread
  spread_same zero s = refl
  spread_same (suc n) s = λ d. spread_over (tied_same n d) (spread_same n s d)

  times_same : (k s : ℕ) → spread_times A k s ≡ spread_times B k s
  unfolding spread_times
  times_same zero s = refl
  times_same (suc k) s = spread_same A.header.nodes (spread_times A k s) ∙ (λ d. spread B (alike.header.nodes d) (times_same k s d))

  reached_same : (k : ℕ) → reached A k ≡ reached B k
  unfolding reached
  reached_same k = times_same 64 (attribute k)

  module _ (p : Plan) where
    pub events_same : events A p ≡ events B p
    unfolding events
    events_same = λ d. each (alike.header.nodes d) (λ i. record { subject = p.subject i; opened = p.opens i; sealed = p.seals i })

    -- and keys are the same
    key_same : (a : ℕ) → key_of A p a ≡ key_of B p a
    unfolding key_of
    key_same a = λ d. key_name (λ k. reached_same k d) (events_same d) a

    -- tables of the run are the same, but for the kinds in their pasts
    leaving_same : (k : ℕ) (t : Held) → leaving B p k (recast B t) ≡ recast B (leaving A p k t)
    unfolding leaving
    leaving_same k t = λ d. record { column = λ a. if member (p.seals k) a then sealed_under (sym (key_same a) d) (t.column a) else t.column a; past = map (again B) t.past }

    opened_by_same : (i : ℕ) (t : Held) → opened_by p i (recast B t) ≡ recast B (opened_by p i t)
    unfolding opened_by
    opened_by_same i t = refl

    together_same : (t u : Held) → together (recast B t) (recast B u) ≡ recast B (together t u)
    unfolding together
    together_same t u = λ d. record { column = (together t u).column; past = sym (map-append (again B) t.past u.past) d }

    leaf_same : (i : ℕ) → leaf_held (node_of B i) ≡ recast B (leaf_held (node_of A i))
    unfolding leaf_held
    leaf_same i = λ d. record { column = λ a. if member (sym (at i).set d) a then clear else absent; past = [] }

    result_over_same : (i : ℕ) (t : Held) → result_over B i (recast B t) ≡ recast B (result_over A i t)
    unfolding result_over
    result_over_same i t =
        (λ d. record {
          column = λ a. if member (get_or (sym visibles_same d) i 0) a then t.column a else absent;
          past = map (again B) t.past ++ (record { node = i; kind = (node_of B i).kind; read = λ a. if member (sym (at i).read d) a then t.column a else absent } ∷ []);
        })
        ∙ (λ d. record {
          column = λ a. if member (visible A i) a then t.column a else absent;
          past = sym (map-append (again B) t.past (record { node = i; kind = (node_of A i).kind; read = λ a. if member (reads A (node_of A i)) a then t.column a else absent } ∷ [])) d;
        })

    arriving_same : (before : List Held) (uses : Bool) (k : ℕ) → arriving B p (map (recast B) before) uses k ≡ recast B (arriving A p before uses k)
    unfolding arriving
    arriving_same before true k = (λ d. leaving B p k (get_or-map (recast B) before k nothing d)) ∙ leaving_same k (get_or before k nothing)
    arriving_same before false k = refl

    step_same : (before : List Held) (i : ℕ) → held_step B p (map (recast B) before) i ≡ recast B (held_step A p before i)
    unfolding held_step
    step_same before i = rw (← (at i).leaf) (go (eqb (node_of A i).kind a_leaf))
      where
        left : arriving B p (map (recast B) before) (uses_left (node_of B i).kind) (node_of B i).left ≡ recast B (arriving A p before (uses_left (node_of A i).kind) (node_of A i).left)
        left = rw (← left_used i, ← (at i).left) (arriving_same before (uses_left (node_of A i).kind) (node_of A i).left)

        right : arriving B p (map (recast B) before) (uses_right (node_of B i).kind) (node_of B i).right ≡ recast B (arriving A p before (uses_right (node_of A i).kind) (node_of A i).right)
        right = rw (← (at i).uses-right, ← (at i).right) (arriving_same before (uses_right (node_of A i).kind) (node_of A i).right)

        go : (b : Bool)
            → (if b then leaf_held (node_of B i) else
            result_over B i
            (together (opened_by p i (arriving B p (map (recast B) before) (uses_left (node_of B i).kind) (node_of B i).left))
            (opened_by p i (arriving B p (map (recast B) before) (uses_right (node_of B i).kind) (node_of B i).right))))
            ≡ recast B
            (if b then leaf_held (node_of A i) else
            result_over A i
            (together (opened_by p i (arriving A p before (uses_left (node_of A i).kind) (node_of A i).left))
            (opened_by p i (arriving A p before (uses_right (node_of A i).kind) (node_of A i).right))))
        go true = leaf_same i
        go false =
            rw (left, right, opened_by_same i (arriving A p before (uses_left (node_of A i).kind) (node_of A i).left), opened_by_same i (arriving A p before (uses_right (node_of A i).kind) (node_of A i).right))
            (rw (together_same (opened_by p i (arriving A p before (uses_left (node_of A i).kind) (node_of A i).left)) (opened_by p i (arriving A p before (uses_right (node_of A i).kind) (node_of A i).right)))
            (result_over_same i _))

    helds_same : helds B p ≡ map (recast B) (helds A p)
    unfolding helds
    helds_same = (λ d. upwards (held_step B p) (sym alike.header.nodes d)) ∙ upwards_map (recast B) (held_step A p) (held_step B p) step_same A.header.nodes

    result_same : (i : ℕ) → result_of B p i ≡ recast B (result_of A p i)
    unfolding result_of
    result_same i = (λ d. get_or (helds_same d) i nothing) ∙ get_or-map (recast B) (helds A p) i nothing

    left_same : (i : ℕ) → left_arrives B p i ≡ recast B (left_arrives A p i)
    unfolding left_arrives
    left_same i = rw (helds_same, ← left_used i, ← (at i).left) (arriving_same (helds A p) (uses_left (node_of A i).kind) (node_of A i).left)

    right_same : (i : ℕ) → right_arrives B p i ≡ recast B (right_arrives A p i)
    unfolding right_arrives
    right_same i = rw (helds_same, ← (at i).uses-right, ← (at i).right) (arriving_same (helds A p) (uses_right (node_of A i).kind) (node_of A i).right)

    left_opened_same : (i : ℕ) → left_opened B p i ≡ recast B (left_opened A p i)
    unfolding left_opened
    left_opened_same i = (λ d. opened_by p i (left_same i d)) ∙ opened_by_same i (left_arrives A p i)

    right_opened_same : (i : ℕ) → right_opened B p i ≡ recast B (right_opened A p i)
    unfolding right_opened
    right_opened_same i = (λ d. opened_by p i (right_same i d)) ∙ opened_by_same i (right_arrives A p i)

    arrived_same : (i : ℕ) → arrived B p i ≡ recast B (arrived A p i)
    unfolding arrived
    arrived_same i = (λ d. together (left_same i d) (right_same i d)) ∙ together_same (left_arrives A p i) (right_arrives A p i)

    opened_same : (i : ℕ) → opened B p i ≡ recast B (opened A p i)
    unfolding opened
    opened_same i = (λ d. together (left_opened_same i d) (right_opened_same i d)) ∙ together_same (left_opened A p i) (right_opened A p i)

    delivered_same : delivered B p ≡ recast B (delivered A p)
    unfolding delivered
    delivered_same =
        (λ d. leaving B p (sym alike.header.nodes d - 1) (result_of B p (sym alike.header.nodes d - 1)))
        ∙ (λ d. leaving B p (A.header.nodes - 1) (result_same (A.header.nodes - 1) d)) ∙ leaving_same (A.header.nodes - 1) (result_of A p (A.header.nodes - 1))

    received_same : received B p ≡ recast B (received A p)
    unfolding received
    received_same = rw delivered_same refl

    -- so the keys have the same holders
    sealed_in_same : sealed_in A (delivered A p) ≡ sealed_in B (delivered B p)
    unfolding sealed_in
    sealed_in_same = λ d. unions (λ a. if is_sealed ((sym delivered_same d).column a) then attribute a else 0) (alike.header.attributes d)

    pub all_events_same : all_events A p ≡ all_events B p
    unfolding all_events deliveries
    all_events_same =
        λ d. events_same d ++ (if alike.header.delivering d then record { subject = alike.header.user d; opened = sealed_in_same d; sealed = 0 } ∷ [] else [])

    holder_same : (a : ℕ) → holders A p a ≡ holders B p a
    unfolding holders
    holder_same a = λ d. key_holders (λ k. reached_same k d) (all_events_same d) a

    -- the same nodes are stuck
    stuck_same : (i : ℕ) → Stuck B p i → Stuck A p i
    stuck_same i (seals_unclear a h u) = seals_unclear a h (rw (result_same i) at u)
    stuck_same i (opens_unsealed a h u) = opens_unsealed a h (rw (arrived_same i) at u)
    stuck_same i (opens_unheld a key h e u) = opens_unheld a key h (rw (arrived_same i) at e) (rw (holder_same key) u)
    stuck_same i (needs_unclear a h u) = needs_unclear a (rw (at i).needed h) (rw (opened_same i) at u)
    stuck_same i (mixes m h u v) = mixes m (rw (at i).tied h) (rw (opened_same i) at u) (rw (opened_same i) at v)

-- what a past tested and tied, whatever kinds its steps have of their nights
module _ (A B : Night) (alike : AlikeNights A B) where
  some_same : (Q R : Past → Type 0) → ((d : Past) → Q (again A d) → R (again B d)) → (ds : List Past) → Some Q (map (again A) ds) → Some R (map (again B) ds)
  some_same Q R f [] h = h
  some_same Q R f (d ∷ ds) h = ⊎_elim (λ q. inl (f d q)) (λ q. inr (some_same Q R f ds q)) h

  past_tested : (ds : List Past) (a : ℕ) (f : Form) → Tested A (map (again A) ds) a f → Tested B (map (again B) ds) a f
  unfolding Tested
  past_tested ds a f h = some_same _ _ (λ d q. (rw (← tested_same A B alike d.node) q.0, q.1)) ds h

  past_tied : (ds : List Past) (m : ℕ) → Tied A (map (again A) ds) m → Tied B (map (again B) ds) m
  unfolding Tied
  past_tied ds m h = some_same _ _ (λ d q. rw (← tied_same A B alike d.node) q) ds h

  -- the same tables are forbidden
  recast_forbidden : (t : Held) (P E : ℕ) → Forbidden A (recast A t) P E → Forbidden B (recast B t) P E
  recast_forbidden t P E (clear_column a e u) = clear_column a e u
  recast_forbidden t P E (clear_test a e u) = clear_test a (past_tested t.past a clear e) u
  recast_forbidden t P E (sealed_column a key e u v) = sealed_column a key e u v
  recast_forbidden t P E (sealed_test a key e u v) = sealed_test a key (past_tested t.past a (sealed key) e) u v
  recast_forbidden t P E (tied_apart a b c x y u v) = tied_apart a b c (chain_map (past_tied t.past) x) (chain_map (past_tied t.past) y) u v

  table_forbidden : (t u : Held) (q : ℕ) → t ≡ recast A t → u ≡ recast B t → Forbidden A t (clear_of A q) (sealed_of A q) → Forbidden B u (clear_of B q) (sealed_of B q)
  table_forbidden t u q e g f = rw (g, ← alike.clears q, ← alike.sealeds q) (recast_forbidden t (clear_of A q) (sealed_of A q) (own e f))
    where
      own : t ≡ recast A t → Forbidden A t (clear_of A q) (sealed_of A q) → Forbidden A (recast A t) (clear_of A q) (sealed_of A q)
      own e f = subst (λ (x : Held). Forbidden A x (clear_of A q) (sealed_of A q)) e f

  module _ (p : Plan) where
    self : AlikeNights A A
    self = alike_self A

    forbidden_same : (i : ℕ) → ForbiddenAt A p i → ForbiddenAt B p i
    forbidden_same i (left-arrives u f) = left-arrives (rw (← left_used A B alike i) u) (table_forbidden (left_arrives A p i) (left_arrives B p i) (p.subject i) (left_same A A self p i) (left_same A B alike p i) f)
    forbidden_same i (right-arrives u f) = right-arrives (rw (← (alike.node i).uses-right) u) (table_forbidden (right_arrives A p i) (right_arrives B p i) (p.subject i) (right_same A A self p i) (right_same A B alike p i) f)
    forbidden_same i (left-opened u f) = left-opened (rw (← left_used A B alike i) u) (table_forbidden (left_opened A p i) (left_opened B p i) (p.subject i) (left_opened_same A A self p i) (left_opened_same A B alike p i) f)
    forbidden_same i (right-opened u f) = right-opened (rw (← (alike.node i).uses-right) u) (table_forbidden (right_opened A p i) (right_opened B p i) (p.subject i) (right_opened_same A A self p i) (right_opened_same A B alike p i) f)
    forbidden_same i (result_made s f) =
        result_made (λ z. s (eqb-true (node_of A i).kind 0 ((alike.node i).leaf ∙ eq-eqb (node_of B i).kind 0 z))) (table_forbidden (result_of A p i) (result_of B p i) (p.subject i) (result_same A A self p i) (result_same A B alike p i) f)

    user : A.header.user ≡ B.header.user
    user = alike.header.user

    -- and the same deliveries fail
    delivery_same : DeliveryFails A p → DeliveryFails B p
    delivery_same (user_takes f) = user_takes (subst (λ (q : ℕ). Forbidden B (delivered B p) (clear_of B q) (sealed_of B q)) user (table_forbidden (delivered A p) (delivered B p) A.header.user (delivered_same A A self p) (delivered_same A B alike p) f))
    delivery_same (user_opens f) = user_opens (subst (λ (q : ℕ). Forbidden B (received B p) (clear_of B q) (sealed_of B q)) user (table_forbidden (received A p) (received B p) A.header.user (received_same A A self p) (received_same A B alike p) f))
    delivery_same (user_unheld a key e u) = user_unheld a key (rw (delivered_same A B alike p) e) (subst (λ (q : ℕ). In q (holders B p key) → ⊥) user (rw (← holder_same A B alike p key) u))

-- so what runs clean in the one runs clean in the other
clean_same : (A B : Night) → AlikeNights A B → (p : Plan) → Clean A p → Clean B p
clean_same A B alike p c =
    record {
      free = λ i l h. c.free i (rw alike.header.nodes l) (stuck_same A B alike p i h);
      allowed = λ i l h. c.allowed i (rw alike.header.nodes l) (forbidden_same B A (alike_back A B alike) p i h);
      delivery = λ d h. c.delivery (rw alike.header.delivering d) (delivery_same B A (alike_back A B alike) p h);
    }

-- all together
pub alike_same : (A B : Night) → AlikeNights A B → SameAs A B
alike_same A B alike =
    record {
      table = table_same A B alike;
      candidates = candidates_same A B alike;
      key = key_same A B alike;
      holder = holder_same A B alike;
      stuck = λ p i. (stuck_same B A (alike_back A B alike) p i, stuck_same A B alike p i);
      forbidden = λ p i. (forbidden_same A B alike p i, forbidden_same B A (alike_back A B alike) p i);
      delivery = λ p. (delivery_same A B alike p, delivery_same B A (alike_back A B alike) p);
      clean = λ p. (clean_same A B alike p, clean_same B A (alike_back A B alike) p);
    }
