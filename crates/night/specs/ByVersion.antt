-- What each version has, said by numbers, so that a slip in Versions.antt shows here (in the lengths that no version changes, in Rising.antt of `format`).
use Rattle.std.specs.Prelude.{ℕ, ◌≡◌, true, false, List, [], ◌∷◌}
use Rattle.night.specs.Versions.{known, delivers, has_pairs, has_days, last_kind, header_length, grant_length, node_length}

-- of versions 1 to 4
abbrev pub each_version : {A : Type 0} → (ℕ → A) → List A
each_version f = f 1 ∷ f 2 ∷ f 3 ∷ f 4 ∷ []

pub record ByVersion : Type 0 where
  -- these are known; not the one before, the next, or ones that are like the first and the last in their low byte
  pub known_these : each_version known ≡ true ∷ true ∷ true ∷ true ∷ []
  pub known_others : known 0 ∷ known 5 ∷ known 257 ∷ known 260 ∷ [] ≡ false ∷ false ∷ false ∷ false ∷ []
  -- a user from version 2 on; pairs, and kind 9, from version 3 on; days from version 4 on
  pub users : each_version delivers ≡ false ∷ true ∷ true ∷ true ∷ []
  pub pairs : each_version has_pairs ≡ false ∷ false ∷ true ∷ true ∷ []
  pub days : each_version has_days ≡ false ∷ false ∷ false ∷ true ∷ []
  pub last_kinds : each_version last_kind ≡ 8 ∷ 8 ∷ 9 ∷ 9 ∷ []
  -- lengths of the header, of a grant and of a node
  pub headers : each_version header_length ≡ 15 ∷ 16 ∷ 17 ∷ 19 ∷ []
  pub grants : each_version grant_length ≡ 18 ∷ 18 ∷ 18 ∷ 22 ∷ []
  pub nodes : each_version node_length ≡ 28 ∷ 28 ∷ 30 ∷ 30 ∷ []
