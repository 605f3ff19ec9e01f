-- The values that are handed in, lent, and what is made of them.
use Rattle.std.specs.Prelude.{ℕ, ◌-◌, ◌≡◌, List, ◌++◌, replicate, Result, OnOk}
use Rattle.laws.specs.Trials.{verdict}
use Rattle.night.specs.declared.refusals.Refusal.{Refusal}
use Rattle.night.specs.Refusals.{said}
use Rattle.format.specs.Layout.{file_length}
use Rattle.writes.specs.Values.{Values, file_bytes}
use Rattle.writes.specs.Writing.{count_trials}
use Rattle.writes.specs.Back.{ValuesFit}
use Rattle.encoding.specs.declared.values.Values.{Values as Lent}

-- the length of the longest file: document 01's 11,967, the user, and with pairs their number, two bytes more for each node, and 255 pairs; with days the
-- night's, and four bytes more for each grant
abbrev pub longest : ℕ
longest = 13697

-- the values that are lent
abbrev pub values_of : Lent → Values
values_of v =
    record {
      header = v.header;
      relations = v.relations.now;
      grants = v.grants.now;
      nodes = v.nodes.now;
      pairs = v.pairs.now;
      step_prices = v.step_prices.now;
      link_prices = v.link_prices.now;
    }

-- the first of 2, 4, 3 that refuses them; or none, and the file with zeros behind it. Values that are lent fit
pub record EncodedSays (vs : Values) (result : Result (List ℕ) Refusal) : Type 0 where
  pub its_answer : said result ≡ verdict (count_trials vs) (file_bytes vs ++ replicate (longest - file_length vs.header) 0)
  pub fits : OnOk result (ValuesFit vs)

-- any two results of which this is so are the same
abbrev pub EncodedOnce : Type 0
EncodedOnce = (vs : Values) (a b : Result (List ℕ) Refusal) → EncodedSays vs a → EncodedSays vs b → a ≡ b
