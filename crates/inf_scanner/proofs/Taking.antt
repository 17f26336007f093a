-- One more byte is taken.
use Rattle.std.proofs.Common.{◌≡◌, ℕ, suc, ◌+◌, ◌<◌, List, ◌∷◌, ◌++◌, length, drop, get_or, sym, ap, ◌∙◌, add-one, drop-cons}
use Rattle.inf_characters.specs.declared.characters.CharSet.{CharSet}
use Rattle.inf_scanner.specs.{declared.scanner.State.State, declared.scanner.Turn.Turn}
use Rattle.inf_scanner.specs.Scanning.{Sight, Found, turn, find}

abbrev pub after_turn : CharSet → ℕ → Turn × Sight → ℕ → List ℕ → Found
after_turn set limit t b bs = elim t.0 [
  | Turn.On next ↦ find set limit next t.1 bs
  | Turn.Last e ↦ record { ending = e; seen = t.1; rest = bs }
  | Turn.Behind e ↦ record { ending = e; seen = t.1; rest = b ∷ bs }
]

find_turn : (set : CharSet) (limit : ℕ) (s : State) (seen : Sight) (bytes : List ℕ) (i : ℕ) (rest : List ℕ) (t : Turn × Sight) →
    i < length bytes
    → t ≡ turn set limit s (get_or bytes i 0) seen → after_turn set limit t (get_or bytes i 0) (drop (i + 1) bytes ++ rest) ≡ find set limit
    s seen (drop i bytes ++ rest)
find_turn set limit s seen bytes i rest t within is = ap (λ n. after_turn set limit t (get_or bytes i 0) (drop n bytes ++ rest)) (add-one i)
    ∙ ap (λ x. after_turn set limit x (get_or bytes i 0) (drop (suc i) bytes ++ rest)) is
    ∙ sym (ap (λ l. find set limit s seen (l ++ rest)) (drop-cons bytes i 0 within))

pub found_on : (set : CharSet) (limit : ℕ) (s next : State) (seen after : Sight) (bytes : List ℕ) (i : ℕ) (rest : List ℕ) → i < length bytes
    → (Turn.On next, after) ≡ turn set limit s (get_or bytes i 0) seen → find set limit next after (drop (i + 1) bytes ++ rest) ≡ find
    set limit s seen (drop i bytes ++ rest)
found_on set limit s next seen after bytes i rest within is = find_turn set limit s seen bytes i rest (Turn.On next, after) within is
