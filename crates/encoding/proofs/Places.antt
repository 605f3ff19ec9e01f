-- Where the sections stand in a file whose counts are within their limits: each right behind the one before it, and all of them within the longest file where
-- the number of pairs is one of a byte.
use Prim.Native.Nat.{◌+◌, ◌*◌, ◌<◌, ◌≤◌}
use mathlib.Core.Path.{◌≡◌, refl}
use mathlib.Core.Bool.{Bool, true, false}
use native.Mathlib.Nat.{mul-le-mul}
use native.Mathlib.Omega.{arith}
use lib.ListN.{length}
use borrow.Author.Tests.{ltb-false}
use Rattle.std.specs.Prelude.{if◌then◌else◌}
use Rattle.laws.proofs.Cases.{none-of}
use Rattle.night.specs.declared.Header.{Header}
use Rattle.night.specs.Versions.{has_pairs, header_length, grant_length, node_length}
use Rattle.trials.specs.Rules.{counts_bad}
use Rattle.format.proofs.Written.{header_most, grant_most, node_most}
use Rattle.format.specs.Layout.{grants_from, nodes_from, pairs_from, pairs_in, step_prices_from, link_prices_from, file_length}
use Rattle.writes.specs.Values.{Values}
use Rattle.writes.proofs.Counted.{Counted}
use Rattle.encoding.specs.Encoded.{longest}

pub record Places (h : Header) : Type 0 where
  pub relations_few : h.relations ≤ 16
  pub grants_few : h.grants ≤ 272
  pub nodes_few : h.nodes ≤ 64
  pub steps_few : h.nodes * h.subjects ≤ 1024
  pub links_few : h.subjects * h.subjects ≤ 256
  pub grants_at : grants_from h ≡ header_length h.version + 9 * h.relations
  pub nodes_at : nodes_from h ≡ grants_from h + grant_length h.version * h.grants
  pub pairs_at : pairs_from h ≡ nodes_from h + node_length h.version * h.nodes
  pub steps-at : step_prices_from h ≡ pairs_from h + 2 * pairs_in h
  pub links_at : link_prices_from h ≡ step_prices_from h + 4 * (h.nodes * h.subjects)
  pub end_at : file_length h ≡ link_prices_from h + 4 * (h.subjects * h.subjects)
  pub short : pairs_in h < 256 → file_length h ≤ longest

pub places_of : (h : Header) → counts_bad h ≡ false → Places h
unfolding counts_bad grants_from nodes_from pairs_from step_prices_from link_prices_from file_length
places_of h fine =
    let t = none-of _ fine in
    let subjects : h.subjects ≤ 16 = ltb-false 16 h.subjects t.1.0 in
    let relations : h.relations ≤ 16 = ltb-false 16 h.relations t.1.1.1.0 in
    let nodes : h.nodes ≤ 64 = ltb-false 64 h.nodes t.1.1.1.1.1.1.1.0 in
    let grants : h.grants ≤ 272 = ltb-false 272 h.grants t.1.1.1.1.1.1.1.1.0 in
    let steps : h.nodes * h.subjects ≤ 1024 = mul-le-mul {n₁ = h.nodes} {m₁ = h.subjects} {n₂ = 64} {m₂ = 16} nodes subjects in
    let links : h.subjects * h.subjects ≤ 256 = mul-le-mul {n₁ = h.subjects} {m₁ = h.subjects} {n₂ = 16} {m₂ = 16} subjects subjects in
    let start = header_most h.version in
    let dated : grant_length h.version * h.grants ≤ 5984 = mul-le-mul {n₁ = grant_length h.version} {m₁ = h.grants} {n₂ = 22} {m₂ = 272} (grant_most h.version) grants in
    let wide : node_length h.version * h.nodes ≤ 1920 = mul-le-mul {n₁ = node_length h.version} {m₁ = h.nodes} {n₂ = 30} {m₂ = 64} (node_most h.version) nodes in
    record {
      relations_few = relations;
      grants_few = grants;
      nodes_few = nodes;
      steps_few = steps;
      links_few = links;
      grants_at = refl;
      nodes_at = refl;
      pairs_at = refl;
      steps-at = refl;
      links_at = refl;
      end_at = refl;
      short = λ few. omega arith;
    }

-- a count of one byte
pub pairs_few : (h : Header) → h.pairs < 256 → pairs_in h < 256
unfolding pairs_in
pairs_few h l = go (has_pairs h.version)
  where
    go : (b : Bool) → (if b then h.pairs else 0) < 256
    go true = l
    go false = omega arith

-- the sections of values that are as many as the counts say end within the file
pub record Within (vs : Values) : Type 0 where
  pub header_within : header_length vs.header.version ≤ longest
  pub relations_within : header_length vs.header.version + 9 * length vs.relations ≤ longest
  pub grants_within : grants_from vs.header + grant_length vs.header.version * length vs.grants ≤ longest
  pub nodes_within : nodes_from vs.header + node_length vs.header.version * length vs.nodes ≤ longest
  pub pairs_within : pairs_from vs.header + length vs.pairs ≤ longest
  pub steps_within : step_prices_from vs.header + 4 * length vs.step_prices ≤ longest
  pub links_within : link_prices_from vs.header + 4 * length vs.link_prices ≤ longest
  pub file_within : file_length vs.header ≤ longest

pub within_of : (vs : Values) → Places vs.header → Counted vs → pairs_in vs.header < 256 → Within vs
within_of vs places many few =
    let short = places.short few in
    record {
      header_within = omega arith;
      relations_within = rw many.relations (omega arith);
      grants_within = rw many.grants (omega arith);
      nodes_within = rw many.nodes (omega arith);
      pairs_within = rw many.pairs (omega arith);
      steps_within = rw many.steps (omega arith);
      links_within = rw many.links (omega arith);
      file_within = short;
    }
