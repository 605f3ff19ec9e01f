-- The sections, one behind the other, are the file of the values.
use Prim.Native.Nat.{ℕ}
use mathlib.Core.Path.{◌≡◌, sym}
use mathlib.Core.List.{List, ◌++◌, append_assoc}
use native.Mathlib.Nat.{zero-add}
use lib.ListN.{length, length-append}
use Rattle.laws.specs.BigEndian.{bytes}
use Rattle.laws.specs.InOrder.{in_order}
use Rattle.laws.proofs.BigEndian.{bytes_length}
use Rattle.laws.proofs.InOrder.{in_order_length}
use Rattle.night.specs.Versions.{header_length, grant_length, node_length}
use Rattle.format.specs.Layout.{grants_from, nodes_from, pairs_from, step_prices_from, link_prices_from, header_bytes, relation_bytes, grant_bytes, node_bytes}
use Rattle.format.proofs.Written.{header_long, relation_long, grant_long, node_long}
use Rattle.writes.specs.Values.{Values, file_bytes}
use Rattle.writes.proofs.Counted.{Counted}
use Rattle.encoding.specs.Stored.{Stored}
use Rattle.encoding.proofs.Places.{Places}
use Rattle.encoding.proofs.Put.{put_then, put_same}

-- from the start, a run behind another that is as long as the place says
behind : {s done after xs ys : List ℕ} {k at : ℕ} → length xs ≡ k → at ≡ k → Stored s done 0 xs → Stored done after at ys → Stored s after 0 (xs ++ ys)
behind {s} {done} {after} {xs} {ys} {k} {at} long e first second = put_then k long first (rw (e, ← zero-add k) at second)

pub all_put : (vs : Values) {s s₁ s₂ s₃ s₄ s₅ s₆ s₇ : List ℕ} {a₁ a₂ a₃ a₄ a₅ a₆ : ℕ} → Places vs.header → Counted vs
    → a₁ ≡ header_length vs.header.version → a₂ ≡ grants_from vs.header → a₃ ≡ nodes_from vs.header
    → a₄ ≡ pairs_from vs.header → a₅ ≡ step_prices_from vs.header → a₆ ≡ link_prices_from vs.header
    → Stored s s₁ 0 (header_bytes vs.header)
    → Stored s₁ s₂ a₁ (in_order relation_bytes vs.relations)
    → Stored s₂ s₃ a₂ (in_order (grant_bytes vs.header.version) vs.grants)
    → Stored s₃ s₄ a₃ (in_order (node_bytes vs.header.version) vs.nodes)
    → Stored s₄ s₅ a₄ vs.pairs
    → Stored s₅ s₆ a₅ (in_order (bytes 4) vs.step_prices)
    → Stored s₆ s₇ a₆ (in_order (bytes 4) vs.link_prices)
    → Stored s s₇ 0 (file_bytes vs)
unfolding file_bytes
all_put vs places many e₁ e₂ e₃ e₄ e₅ e₆ header_put relations_put grants_put nodes_put pairs_put steps_put links_put =
    let h = vs.header in
    let H = header_bytes h in
    let R = in_order relation_bytes vs.relations in
    let G = in_order (grant_bytes h.version) vs.grants in
    let N = in_order (node_bytes h.version) vs.nodes in
    let S = in_order (bytes 4) vs.step_prices in
    let l₁ : length H ≡ header_length h.version = header_long h in
    let l₂ : length (H ++ R) ≡ grants_from h = rw (length-append, l₁, in_order_length relation_bytes 9 relation_long vs.relations, many.relations) (sym places.grants_at) in
    let l₃ : length ((H ++ R) ++ G) ≡ nodes_from h = rw (length-append (H ++ R) G, l₂, in_order_length (grant_bytes h.version) (grant_length h.version) (grant_long h.version) vs.grants, many.grants) (sym places.nodes_at) in
    let l₄ : length (((H ++ R) ++ G) ++ N) ≡ pairs_from h = rw (length-append ((H ++ R) ++ G) N, l₃, in_order_length (node_bytes h.version) (node_length h.version) (node_long h.version) vs.nodes, many.nodes) (sym places.pairs_at) in
    let l₅ : length ((((H ++ R) ++ G) ++ N) ++ vs.pairs) ≡ step_prices_from h = rw (length-append (((H ++ R) ++ G) ++ N) vs.pairs, l₄, many.pairs) (sym places.steps-at) in
    let l₆ : length (((((H ++ R) ++ G) ++ N) ++ vs.pairs) ++ S) ≡ link_prices_from h = rw (length-append ((((H ++ R) ++ G) ++ N) ++ vs.pairs) S, l₅, in_order_length (bytes 4) 4 (bytes_length 4) vs.step_prices, many.steps) (sym places.links_at) in
    put_same (simp append_assoc)
    (behind l₆ e₆ (behind l₅ e₅ (behind l₄ e₄ (behind l₃ e₃ (behind l₂ e₂ (behind l₁ e₁ header_put relations_put) grants_put) nodes_put) pairs_put) steps_put) links_put)
