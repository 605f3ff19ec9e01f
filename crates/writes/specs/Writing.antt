-- When a writer refuses, in order, and what stands in the lent room after it.
use Rattle.std.specs.Prelude.{ℕ, ◌*◌, Bool, not, List, [], ◌∷◌, ◌++◌, eqb, ltb, length, drop, if◌then◌else◌}
use Rattle.laws.specs.Choose.{any_of}
use Rattle.laws.specs.Trials.{Trial, trial, Says, answers, refuses, verdict}
use Rattle.night.specs.declared.Header.{Header}
use Rattle.night.specs.Versions.{known}
use Rattle.format.specs.Layout.{pairs_in, file_length, header_of}
use Rattle.trials.specs.Rules.{counts_bad}
use Rattle.trials.specs.Trials.{header_trials, record_trials, tree_trials}
use Rattle.writes.specs.Values.{Values, night_from, values_of}

-- 3: so many relations, grants, nodes, bytes of pairs, step prices and link prices are not as many as the counts say
unfoldable pub miscounted_by : Header → ℕ → ℕ → ℕ → ℕ → ℕ → ℕ → Bool
miscounted_by h relations grants nodes pairs step_prices link_prices =
    any_of
    (not (eqb relations h.relations)
    ∷ not (eqb grants h.grants)
    ∷ not (eqb nodes h.nodes)
    ∷ not (eqb pairs (2 * pairs_in h))
    ∷ not (eqb step_prices (h.nodes * h.subjects))
    ∷ not (eqb link_prices (h.subjects * h.subjects))
    ∷ [])

-- the same of values
unfoldable pub miscounted : Values → Bool
miscounted vs =
    miscounted_by vs.header (length vs.relations) (length vs.grants) (length vs.nodes) (length vs.pairs) (length vs.step_prices) (length vs.link_prices)

-- 2: an unknown version; 4; and 3
unfoldable pub count_trials : Values → List Trial
count_trials vs = trial (not (known vs.header.version)) 2 0 ∷ trial (counts_bad vs.header) 4 0 ∷ trial (miscounted vs) 3 0 ∷ []

-- 15: a room that is shorter than the file
unfoldable pub room_trials : Values → ℕ → List Trial
room_trials vs room = trial (ltb room (file_length vs.header)) 15 4 ∷ []

-- all of them: those of the values' night, 5 to 11, are reading's own
unfoldable pub write_trials : Values → ℕ → List Trial
write_trials vs room = count_trials vs ++ ((record_trials (night_from vs) ++ tree_trials (night_from vs)) ++ room_trials vs room)

-- what a writer says of values and a room of so many bytes: how many bytes it wrote, or the refusal
unfoldable pub write_of : Values → ℕ → Says ℕ
write_of vs room = verdict (write_trials vs room) (file_length vs.header)

-- the room after it: the file, and behind it what stood there; with a refusal, what stood there
abbrev pub room_after : Says ℕ → List ℕ → List ℕ → List ℕ
room_after (answers n) file room = file ++ drop n room
room_after (refuses n p) file room = room

-- what comes of a file of so many bytes that reading judges so, and of a room: reading's refusal, or 15, or its length
abbrev pub judged_by : Says Header → ℕ → ℕ → Says ℕ
judged_by (answers h) long room = if ltb room long then refuses 15 4 else answers long
judged_by (refuses n p) long room = refuses n p

-- what is said where a file's values are written again: first 1 to 4 and 3 of its header and its length, as by reading, since until then there are no values
unfoldable pub rewrite_of : List ℕ → ℕ → Says ℕ
rewrite_of s room = verdict (header_trials s ++ write_trials (values_of s) room) (file_length (header_of s))
