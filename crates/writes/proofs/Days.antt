-- A file of version 3 as one of version 4.
use Prim.Native.Nat.{ℕ, ◌*◌, ◌<◌}
use mathlib.Core.Path.{◌≡◌, refl, sym, ap, ◌∙◌}
use mathlib.Core.Bool.{false}
use mathlib.Core.List.{List, map, map-id}
use lib.Dec.{lit<}
use Rattle.laws.specs.Choose.{any_of}
use Rattle.laws.specs.Trials.{answers, verdict}
use Rattle.laws.specs.Upwards.{each}
use Rattle.laws.proofs.Trials.{passed}
use Rattle.night.specs.declared.Header.{Header}
use Rattle.night.specs.declared.Grant.{Grant}
use Rattle.night.specs.declared.Node.{Node}
use Rattle.night.specs.Versions.{known, delivers, has_pairs, has_days}
use Rattle.night.specs.Days.{header_in, in_version}
use Rattle.format.specs.Layout.{pairs_in, header_of, as_read, grant_as_read, node_as_read, pair_at, night_in, night_of}
use Rattle.trials.specs.Rules.{counts_bad, user_bad}
use Rattle.trials.specs.Trials.{header_trials}
use Rattle.writes.specs.Values.{Values, with_header, night_from, values_of}
use Rattle.writes.specs.Writing.{miscounted, miscounted_by, count_trials}
use Rattle.writes.specs.Back.{ValuesFit, Bytes, SameAgain}
use Rattle.writes.specs.Days.{Headed, as_four, InFour}
use Rattle.writes.proofs.ReadBack.{reads_back}
use Rattle.writes.proofs.Judged.{head_alike}
use Rattle.writes.proofs.Again.{headed_again}

-- a version with days keeps grants and nodes as they are
grants_kept : (gs : List Grant) → map (grant_as_read 4) gs ≡ gs
unfolding grant_as_read has_days
grants_kept gs = map-id gs

nodes_kept : (vs : List Node) → map (node_as_read 4) vs ≡ vs
unfolding node_as_read has_pairs
nodes_kept vs = map-id vs

module _ (s : List ℕ) (day : ℕ) (all : Bytes s) (three : (header_of s).version ≡ 3) (headed : Headed s) (low : day < 65536) where
  abbrev h : Header
  h = header_of s

  abbrev four : Header
  four = header_in h 4 day

  abbrev vs : Values
  vs = with_header four (values_of s)

  again : SameAgain s
  again = headed_again s all headed

  -- it counts as many pairs
  pairs_kept : pairs_in h ≡ pairs_in four
  unfolding pairs_in has_pairs
  pairs_kept = rw three refl

  fits : ValuesFit vs
  unfolding values_of
  fits =
      let f = again.fits in
      record {
        header = record { version = lit< tt; grants = f.header.grants; steps = f.header.steps; day = low };
        relation = f.relation;
        grant = f.grant;
        node = f.node;
        step-price = f.step-price;
        link-price = f.link-price;
      }

  counted : miscounted vs ≡ false
  unfolding miscounted miscounted_by values_of
  counted = rw (← pairs_kept) again.counted

  -- the file's own night, by its values
  own : night_of s ≡ night_from (values_of s)
  own = ap night_of (sym again.same) ∙ reads_back (values_of s) again.fits again.counted

  pairs_same : each (pairs_in four) (λ i. pair_at (values_of s).pairs (2 * i)) ≡ (night_of s).pairs
  unfolding night_from values_of
  pairs_same = (λ d. each (sym pairs_kept d) (λ i. pair_at (values_of s).pairs (2 * i))) ∙ (λ d. (sym own d).pairs)

  night : night_from vs ≡ in_version (night_of s) 4 day
  unfolding night_from in_version as_read pairs_in values_of night_in delivers has_pairs has_days
  night =
      λ i.
      record {
        header = four;
        relations = (night_of s).relations;
        grants = grants_kept (night_of s).grants i;
        nodes = nodes_kept (night_of s).nodes i;
        pairs = pairs_same i;
        step_prices = (sym own i).step_prices;
        link_prices = (sym own i).link_prices;
      }

  -- 1 to 4 pass of it as of the file
  counts_kept : counts_bad four ≡ counts_bad h
  unfolding counts_bad user_bad delivers
  counts_kept = rw three refl

  passes : verdict (count_trials vs) (tt {0}) ≡ answers tt
  unfolding header_trials count_trials known any_of verdict
  passes = rw (counts_kept, (passed (header_trials s) (tt {0}) tt headed).0.1.1.1.0, counted) refl

  pub in_it : Headed (as_four day s) × (night_of (as_four day s) ≡ in_version (night_of s) 4 day)
  in_it = (head_alike vs fits counted ∙ passes, reads_back vs fits counted ∙ night)

pub in_four : InFour
in_four = in_it
