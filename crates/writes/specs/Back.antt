-- What is written is read back as the same values, a file's values written again give its bytes, and values are refused exactly as their file is.
use Rattle.std.specs.Prelude.{ℕ, ◌<◌, ◌≤◌, ◌^◌, ◌≡◌, false, List, length, get_or}
use Rattle.laws.specs.Trials.{answers, verdict}
use Rattle.night.specs.declared.Header.{Header}
use Rattle.night.specs.declared.Relation.{Relation}
use Rattle.night.specs.declared.Grant.{Grant}
use Rattle.night.specs.declared.Node.{Node}
use Rattle.night.specs.Night.{no_relation, no_grant, no_node}
use Rattle.format.specs.Layout.{file_length, as_read, night_of}
use Rattle.trials.specs.Trials.{header_trials, check_of}
use Rattle.writes.specs.Values.{Values, night_from, file_bytes, values_of, read_as}
use Rattle.writes.specs.Writing.{miscounted, write_of, judged_by, rewrite_of}

-- numbers of several bytes fit into them, as those of a program's values do by their types
pub record HeaderFits (h : Header) : Type 0 where
  pub version : h.version < 2 ^ 16
  pub grants : h.grants < 2 ^ 16
  pub steps : h.steps < 2 ^ 32
  pub day : h.day < 2 ^ 16

abbrev pub RelationFits : Relation → Type 0
RelationFits v = v.set < 2 ^ 64

abbrev pub GrantFits : Grant → Type 0
GrantFits v = (v.clear < 2 ^ 64) × (v.sealed < 2 ^ 64) × (v.first < 2 ^ 16) × (v.last < 2 ^ 16)

abbrev pub NodeFits : Node → Type 0
NodeFits v = (v.set < 2 ^ 64) × (v.needed < 2 ^ 64) × (v.size < 2 ^ 32)

pub record ValuesFit (vs : Values) : Type 0 where
  pub header : HeaderFits vs.header
  pub relation : (k : ℕ) → RelationFits (get_or vs.relations k no_relation)
  pub grant : (k : ℕ) → GrantFits (get_or vs.grants k no_grant)
  pub node : (k : ℕ) → NodeFits (get_or vs.nodes k no_node)
  pub step-price : (k : ℕ) → get_or vs.step_prices k 0 < 2 ^ 32
  pub link-price : (k : ℕ) → get_or vs.link_prices k 0 < 2 ^ 32

-- every entry is a byte
abbrev pub Bytes : List ℕ → Type 0
Bytes s = (k : ℕ) → get_or s k 0 < 256

-- of values with as many records as the counts say: the file's night is the values' own
abbrev pub ReadsBack : Type 0
ReadsBack = (vs : Values) → ValuesFit vs → miscounted vs ≡ false → night_of (file_bytes vs) ≡ night_from vs

-- and so are its values, header, grants and nodes as they are read
abbrev pub ValuesBack : Type 0
ValuesBack = (vs : Values) → ValuesFit vs → miscounted vs ≡ false → values_of (file_bytes vs) ≡ read_as vs

-- its length is what the counts give
abbrev pub AsLong : Type 0
AsLong = (vs : Values) → miscounted vs ≡ false → length (file_bytes vs) ≡ file_length vs.header

-- the writer says of the values, for every room, just what reading says of their file, number and place, and then 15 of the room
abbrev pub JudgedAlike : Type 0
JudgedAlike =
    (vs : Values) (room : ℕ) → ValuesFit vs → miscounted vs ≡ false
    → write_of vs room ≡ judged_by (check_of (file_bytes vs)) (file_length vs.header) room

-- what was written: as many bytes as were answered, accepted, and read back as the same values
pub record WrittenFile (vs : Values) (n : ℕ) : Type 0 where
  pub counted : miscounted vs ≡ false
  pub long : length (file_bytes vs) ≡ n
  pub accepted : check_of (file_bytes vs) ≡ answers (as_read vs.header)
  pub night : night_of (file_bytes vs) ≡ night_from vs
  pub values : values_of (file_bytes vs) ≡ read_as vs

abbrev pub WrittenReads : Type 0
WrittenReads = (vs : Values) (room n : ℕ) → ValuesFit vs → write_of vs room ≡ answers n → WrittenFile vs n

-- a file whose header and length pass, whatever its records say: its values fit, are as many as its counts say, and written again they are its bytes
pub record SameAgain (s : List ℕ) : Type 0 where
  pub fits : ValuesFit (values_of s)
  pub counted : miscounted (values_of s) ≡ false
  pub same : file_bytes (values_of s) ≡ s

abbrev pub HeadedAgain : Type 0
HeadedAgain = (s : List ℕ) → Bytes s → verdict (header_trials s) (tt {0}) ≡ answers tt → SameAgain s

-- of every file, written again from its values, the writer says what reading says of it, and then 15 of the room
abbrev pub RewrittenAlike : Type 0
RewrittenAlike = (s : List ℕ) (room : ℕ) → Bytes s → rewrite_of s room ≡ judged_by (check_of s) (length s) room

-- so a file that is accepted, its values written again, gives the same bytes, for every room that is long enough
pub record WrittenAgain (s : List ℕ) : Type 0 where
  pub same : SameAgain s
  pub again : (room : ℕ) → length s ≤ room → (write_of (values_of s) room ≡ answers (length s)) × (rewrite_of s room ≡ answers (length s))

abbrev pub AcceptedAgain : Type 0
AcceptedAgain = (s : List ℕ) (h : Header) → Bytes s → check_of s ≡ answers h → WrittenAgain s
