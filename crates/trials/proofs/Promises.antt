-- Every accepted list of bytes has the promised facts.
use Prim.Native.Nat.{ℕ}
use mathlib.Core.Path.{◌≡◌, ap}
use mathlib.Core.List.{List, ◌++◌}
use Rattle.laws.specs.Trials.{answers}
use Rattle.laws.proofs.Trials.{passed, passes_append}
use Rattle.night.specs.declared.Header.{Header}
use Rattle.night.specs.Promised.{Promised}
use Rattle.format.specs.Layout.{header_of, night_in, night_of}
use Rattle.trials.specs.Trials.{header_trials, section, record_trials, tree_trials, trials, check_of, AcceptedPromises, AcceptedOwners}
use Rattle.trials.specs.declared.Section.TheVariants.{Relations, Grants, Owners, Nodes, Parents, Prices}
use Rattle.trials.proofs.Opened.{accepted_header}
use Rattle.trials.proofs.SoundRecords.{relation_sound, owners_see, relations_sound, grant_sound, counts_sound}
use Rattle.trials.proofs.SoundNodes.{node_sound, parent_sound}
use Rattle.trials.proofs.SoundPrices.{step-price, leaf_price, link-price, link_self}

pub accepted_promises : AcceptedPromises
unfolding check_of trials header_trials record_trials tree_trials night_in
accepted_promises s h e =
    let N = night_of s in
    let all = (passed (trials s) (header_of s) h e).0 in
    let parts = passes_append (header_trials s) (record_trials N ++ tree_trials N) all in
    let both = passes_append (record_trials N) (tree_trials N) parts.1 in
    let records = passes_append (section N Relations) _ both.0 in
    let granted = passes_append (section N Grants) (section N Owners) records.1.1 in
    let nodes = passes_append (section N Nodes) _ both.1 in
    let tree = passes_append (section N Parents) (section N Prices) nodes.1 in
    let relation = relation_sound N records.0 in
    let owners = owners_see N granted.1 in
    let counts = counts_sound N parts.0.1.1.1.0 relation owners in
    record {
      counts = counts;
      relation = relation;
      relations_all = relations_sound N counts.attributes_most records.1.0;
      grant = grant_sound N granted.0;
      node = node_sound N nodes.0;
      parent = parent_sound N tree.0;
      step-price = step-price N tree.1;
      leaf_price = leaf_price N tree.1;
      link-price = link-price N tree.1;
      link_self = link_self N tree.1;
    }

pub accepted_owners : AcceptedOwners
unfolding check_of trials record_trials
accepted_owners s h e =
    let N = night_of s in
    let all = (passed (trials s) (header_of s) h e).0 in
    let parts = passes_append (header_trials s) (record_trials N ++ tree_trials N) all in
    let both = passes_append (record_trials N) (tree_trials N) parts.1 in
    let records = passes_append (section N Relations) _ both.0 in
    owners_see N (passes_append (section N Grants) (section N Owners) records.1.1).1

-- the same over the header that is answered
pub accepted_sound : (s : List ℕ) (h : Header) → check_of s ≡ answers h → Promised (night_in s h)
accepted_sound s h e =
    let same = ap (λ (k : Header). night_in s k) (accepted_header s h e) in
    rw same at (accepted_promises s h e)
