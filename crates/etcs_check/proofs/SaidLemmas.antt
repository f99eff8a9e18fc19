-- The summary of packets, in any order, and what the greatest location shows about each authority.
use Rattle.std.proofs.Common.{◌≡◌, ℕ, ◌+◌, ◌≤◌, Bool, true, false, ◌||◌, ◌&&◌, max, ltb, if◌then◌else◌, List, [], ◌∷◌, ◌++◌, length, drop, filter, reverse, not, Option, Some, None, is_some, refl, sym, ap, ap₂, ◌∙◌, arith}
use Rattle.std.specs.List.{list_any, flat_map, enumerate_from}
use Rattle.std.specs.Option.{option_map_or}
use Rattle.std.proofs.Math.Bool.{or_assoc, or_comm, or-false}
use Rattle.std.proofs.lemmas.Bool.Decides.{nat_tests}
use Rattle.std.proofs.lemmas.List.{drop_all, append-nil, reverse-append}
use Rattle.std.proofs.lemmas.List.Concat.{flat_map-append}
use Rattle.etcs_group.specs.Places.{At}
use Rattle.etcs_group.specs.Packets.{balise_packets, group_message}
use Rattle.etcs_group.specs.Reading.{in_passing_order}
use Rattle.etcs_profile.specs.declared.run.Run.{Run}
use Rattle.etcs_profile.specs.declared.run.Run.TheVariants as runs
use Rattle.etcs_profile.specs.declared.track.TrackPacket.{TrackPacket}
use Rattle.etcs_profile.specs.declared.reach.Reach.{Reach}
use Rattle.etcs_profile.specs.declared.reach.Reach.TheVariants.{Ends, Open}
use Rattle.etcs_telegram.specs.Record.{Telegram}
use Rattle.etcs_check.specs.Findings.{falls_short, exceeds, is_short, lacks}
use Rattle.etcs_check.specs.Profiles.{packet_limit, gradient_reach, speed_reach}
use Rattle.etcs_check.specs.PacketSummary.{greater, ends_early, nothing, both, by_one, packets_summary}
use Rattle.etcs_check.specs.declared.packet_summary.PacketSummary.{PacketSummary}
use Rattle.etcs_check.proofs.FactLemmas.{each_of}
use Rattle.etcs_check.proofs.NoteLemmas.{drop_at}

-- ---- sums, which may be made in any order

greater-none : (o : Option ℕ) → greater o None ≡ o
greater-none None = refl
greater-none (Some m) = refl

greater-assoc : (a b c : Option ℕ) → greater (greater a b) c ≡ greater a (greater b c)
greater-assoc (Some m) (Some n) (Some k) = ap Some (omega arith)
greater-assoc a b c = refl

greater-comm : (a b : Option ℕ) → greater a b ≡ greater b a
greater-comm None b = sym (greater-none b)
greater-comm (Some m) None = refl
greater-comm (Some m) (Some n) = ap Some (omega arith)

pub both-nothing : (s : PacketSummary) → both s nothing ≡ s
both-nothing s = λ i. record { limit = greater-none s.limit i; has_gradient = or-false s.has_gradient i; has_speed = or-false s.has_speed i }

pub both-assoc : (a b c : PacketSummary) → both (both a b) c ≡ both a (both b c)
both-assoc a b c = λ i. record {
  limit = greater-assoc a.limit b.limit c.limit i;
  has_gradient = or_assoc a.has_gradient b.has_gradient c.has_gradient i;
  has_speed = or_assoc a.has_speed b.has_speed c.has_speed i;
}

both-comm : (a b : PacketSummary) → both a b ≡ both b a
both-comm a b = λ i. record {
  limit = greater-comm a.limit b.limit i;
  has_gradient = or_comm a.has_gradient b.has_gradient i;
  has_speed = or_comm a.has_speed b.has_speed i;
}

said-append : (xs ys : List TrackPacket) → packets_summary (xs ++ ys) ≡ both (packets_summary xs) (packets_summary ys)
said-append [] ys = refl
said-append (x ∷ xs) ys = ap (both (by_one x)) (said-append xs ys) ∙ sym (both-assoc (by_one x) (packets_summary xs) (packets_summary ys))

said-passing : {X : Type 0} (f : X → List TrackPacket) (run : Run) (xs : List X) → packets_summary (flat_map f (in_passing_order run xs)) ≡ packets_summary (flat_map f xs)
said-passing f runs.Nominal xs = refl
said-passing f runs.Reverse [] = refl
said-passing f runs.Reverse (x ∷ xs) =
    ap (λ l. packets_summary (flat_map f l)) (reverse-append (x ∷ []) xs)
    ∙ ap packets_summary (flat_map-append f (reverse xs) (x ∷ []))
    ∙ said-append (flat_map f (reverse xs)) (f x ++ [])
    ∙ ap₂ both (said-passing f runs.Reverse xs) (ap packets_summary (append-nil (f x)))
    ∙ both-comm (packets_summary (flat_map f xs)) (packets_summary (f x))
    ∙ sym (said-append (f x) (flat_map f xs))

-- ---- steps

-- the packets that the balises from place i on add, in the order of their places
abbrev pub said_from : Run → ℕ → ℕ → List Telegram → List TrackPacket
said_from run n i group = flat_map (λ (e : ℕ × Telegram). balise_packets run n e.0 e.1) (enumerate_from i (drop i group))

pub said_rest : (run : Run) (n : ℕ) (group : List Telegram) (i : ℕ) (t : Telegram) → At group i t → said_from run n i group ≡ balise_packets run n i t ++ said_from run n (i + 1) group
said_rest run n group i t at = ap (λ l. flat_map (λ (e : ℕ × Telegram). balise_packets run n e.0 e.1) (enumerate_from i l)) (drop_at group i t at)

pub said_end : (run : Run) (n : ℕ) (group : List Telegram) (i : ℕ) → length group ≤ i → said_from run n i group ≡ []
said_end run n group i le = ap (λ l. flat_map (λ (e : ℕ × Telegram). balise_packets run n e.0 e.1) (enumerate_from i l)) (drop_all i group le)

pub said_here : (held : TrackPacket → Bool) (packets : List TrackPacket) (i : ℕ) (p : TrackPacket) → At packets i p
    → packets_summary (filter held (drop i packets)) ≡ both (if held p then by_one p else nothing) (packets_summary (filter held (drop (i + 1) packets)))
said_here held packets i p at = ap (λ l. packets_summary (filter held l)) (drop_at packets i p at) ∙ go (held p)
  where
    rest : List TrackPacket
    rest = filter held (drop (i + 1) packets)

    go : (b : Bool) → packets_summary (if b then p ∷ rest else rest) ≡ both (if b then by_one p else nothing) (packets_summary rest)
    go true = refl
    go false = refl

pub none_here : (held : TrackPacket → Bool) (packets : List TrackPacket) (i : ℕ) → length packets ≤ i → packets_summary (filter held (drop i packets)) ≡ nothing
none_here held packets i le = ap (λ l. packets_summary (filter held l)) (drop_all i packets le)

pub said_step : (run : Run) (n : ℕ) (group : List Telegram) (i : ℕ) (t : Telegram) → At group i t
    → packets_summary (said_from run n i group) ≡ both (packets_summary (balise_packets run n i t)) (packets_summary (said_from run n (i + 1) group))
said_step run n group i t at = ap packets_summary (said_rest run n group i t at) ∙ said-append (balise_packets run n i t) (said_from run n (i + 1) group)

pub said_whole : (run : Run) (group : List Telegram) → packets_summary (said_from run (length group) 0 group) ≡ packets_summary (group_message run group)
said_whole run group = sym (said-passing (λ (e : ℕ × Telegram). balise_packets run (length group) e.0 e.1) run (enumerate_from 0 group))

-- ---- some location lies past a reach if and only if the greatest one does

max_past : (n a b : ℕ) → ltb n (max a b) ≡ (ltb n a || ltb n b)
max_past n a b = grind (arith, nat_tests)

past_greater : (r : Reach) (a b : Option ℕ) → option_map_or (falls_short r) (greater a b) false ≡ (option_map_or (falls_short r) a false || option_map_or (falls_short r) b false)
past_greater r None b = refl
past_greater r (Some m) None = sym (or-false (falls_short r m))
past_greater (Ends n) (Some m) (Some k) = max_past n m k
past_greater Open (Some m) (Some k) = refl

-- some packet passes a test if and only if the summary shows it
any_said : (has : PacketSummary → Bool) (test : TrackPacket → Bool) → has nothing ≡ false → ((p : TrackPacket) (s : PacketSummary) → has (both (by_one p) s) ≡ (test p || has s))
    → (packets : List TrackPacket) → list_any test packets ≡ has (packets_summary packets)
any_said has test none more [] = sym none
any_said has test none more (p ∷ ps) = ap (λ s. test p || s) (any_said has test none more ps) ∙ sym (more p (packets_summary ps))

-- a profile is short if and only if it ends before the greatest location
pub short-before : (reach : TrackPacket → Option Reach) (packets : List TrackPacket) (p : TrackPacket) → is_short reach packets p ≡ ends_early reach (packets_summary packets).limit p
short-before reach packets p =
    each_of (reach p) (λ o. option_map_or (λ r. list_any (exceeds r) packets) o false ≡ option_map_or (λ r. option_map_or (falls_short r) (packets_summary packets).limit false) o false) refl
    (λ r _. any_said (λ s. option_map_or (falls_short r) s.limit false) (exceeds r) refl (λ p s. past_greater r (packet_limit p) s.limit) packets)

-- ---- the parts of the summary

some_greater : (a b : Option ℕ) → is_some (greater a b) ≡ (is_some a || is_some b)
some_greater (Some m) (Some n) = refl
some_greater a b = refl

some_said : (packets : List TrackPacket) → list_any (λ p. is_some (packet_limit p)) packets ≡ is_some (packets_summary packets).limit
some_said = any_said (λ s. is_some s.limit) (λ p. is_some (packet_limit p)) refl (λ p s. some_greater (packet_limit p) s.limit)

pub lacks_gradient-is : (packets : List TrackPacket) → (is_some (packets_summary packets).limit && not (packets_summary packets).has_gradient) ≡ lacks gradient_reach packets
lacks_gradient-is packets = ap₂ (λ a b. a && not b) (sym (some_said packets)) (sym (any_said (λ s. s.has_gradient) (λ p. is_some (gradient_reach p)) refl (λ p s. refl) packets))

pub lacks_speed-is : (packets : List TrackPacket) → (is_some (packets_summary packets).limit && not (packets_summary packets).has_speed) ≡ lacks speed_reach packets
lacks_speed-is packets = ap₂ (λ a b. a && not b) (sym (some_said packets)) (sym (any_said (λ s. s.has_speed) (λ p. is_some (speed_reach p)) refl (λ p s. refl) packets))
