-- Controlled groups. A controlled group shows one of several contents, its aspects, each of which is a group.
-- A lineside unit selects the aspect, and may switch while a train passes. Which aspects are contents of one
-- group is this project's rule, after SUBSET-026, 3.16.2.
use Rattle.std.specs.Prelude.{◌≡◌, ◌≢◌, ℕ, ◌<◌, [], ◌∷◌, length, ◌⊎◌}
use Rattle.etcs_telegram.specs.Record.{Telegram}
use Rattle.etcs_group.specs.Places.{At}
use Rattle.etcs_group.specs.Group.{AreAlike, Telegrams, Aspects}

-- the number of balises: as many as the first aspect has
abbrev pub balise_count : Aspects → ℕ
balise_count [] = 0
balise_count (first ∷ _) = length first

-- A controlled group has one or more aspects, all with the same number of balises, which is not 0.
pub record IsControlled (aspects : Aspects) : Type 0 where
  pub some : 0 < length aspects
  pub balises : 0 < balise_count aspects
  pub counts : (a : ℕ) (group : Telegrams) → At aspects a group → length group ≡ balise_count aspects

-- aspect a has the telegram t at place p
abbrev pub Shows : Aspects → ℕ → ℕ → Telegram → Type 0
Shows aspects a p t = (group : Telegrams) × At aspects a group × At group p t

-- the place holds one and the same telegram in all aspects, and its counter is 255
abbrev pub IsFixed : Aspects → ℕ → Type 0
IsFixed aspects p = (a b : ℕ) (t u : Telegram) → Shows aspects a p t → Shows aspects b p u
    → (t ≡ u) × (t.header.counter ≡ 255)

-- the place holds a counter below 254 in every aspect
abbrev pub IsSwitched : Aspects → ℕ → Type 0
IsSwitched aspects p = (a : ℕ) (t : Telegram) → Shows aspects a p t → t.header.counter < 254

-- Aspects are contents of one group, and distinguished by their counters. All their telegrams are alike.
-- Each place has the same duplicate flag in all of them, and is fixed or switched. Counters below 254 of two
-- aspects differ.
pub record AreOneGroup (aspects : Aspects) : Type 0 where
  pub alike : (a b p q : ℕ) (t u : Telegram) → Shows aspects a p t → Shows aspects b q u → AreAlike t u
  pub marks : (a b p : ℕ) (t u : Telegram) → Shows aspects a p t → Shows aspects b p u
      → t.header.dup ≡ u.header.dup
  pub fixed_or_switched : (p : ℕ) → IsFixed aspects p ⊎ IsSwitched aspects p
  pub distinct : (a b p q : ℕ) (t u : Telegram) → a ≢ b → Shows aspects a p t → Shows aspects b q u
      → t.header.counter < 254 → u.header.counter < 254 → t.header.counter ≢ u.header.counter
