-- Only a quoted token needs more memory.
use Rattle.std.proofs.Common.{◌≡◌, ◌<◌, ◌≤◌, ℕ, List, [], ◌∷◌, Bool, true, not, cond, ◌||◌, ◌&&◌, ◌==◌, Option, Some, None, refl, sym, ap}
use Rattle.std.proofs.Common.{◌∙◌, arith}
use Rattle.std.proofs.lemmas.Bool.{cond_both}
use Rattle.inf_characters.specs.{Characters.is_line_end, Characters.is_white, declared.characters.CharSet.CharSet}
use Rattle.inf_scanner.specs.{Marks.first_mark, Marks.longer_mark, declared.scanner.ByteStep.ByteStep, declared.scanner.Ending.Ending}
use Rattle.inf_scanner.specs.{declared.scanner.State.State, declared.scanner.Turn.Turn, declared.tokens.Mark.Mark}
use Rattle.inf_scanner.specs.Scanning.{Sight, Found, find, is_quoted, is_run_byte, kept, most, most_behind, step_of, turn_by}

-- the token that is found behind a step, at a byte before others
abbrev pub after : CharSet → ℕ → ByteStep → ℕ → Sight → List ℕ → Found
after set limit s b seen bs =
    let t = turn_by limit s b seen in
    elim t.0 [
      | Turn.On next ↦ find set limit next t.1 bs
      | Turn.Last e ↦ record { ending = e; seen = t.1; rest = bs }
      | Turn.Behind e ↦ record { ending = e; seen = t.1; rest = b ∷ bs }
    ]

text_ends : (set : CharSet) (limit : ℕ) (bs : List ℕ) (seen : Sight) → is_quoted (find set limit State.Text seen bs).ending ≡ true
text_ends set limit [] seen = refl
text_ends set limit (b ∷ bs) seen =
    cond_both (b == 34) (ByteStep.Close Ending.Text) (ByteStep.Keep State.Text) (λ s. is_quoted (after set limit s b seen bs).ending ≡ true)
    (λ _. refl) (λ _. text_ends set limit bs (kept limit b seen))

quote_ends : (set : CharSet) (limit : ℕ) (bs : List ℕ) (a : Bool) (seen : Sight) →
    is_quoted (find set limit (State.Quote a) seen bs).ending ≡ true
quote_ends set limit [] a seen = refl
quote_ends set limit (b ∷ bs) a seen = cond_both (is_line_end b) (ByteStep.Behind Ending.Unclosed)
    (cond (b == 39 && not a) (ByteStep.Close Ending.Quote) (ByteStep.Keep (State.Quote (b == 64))))
    (λ s. is_quoted (after set limit s b seen bs).ending ≡ true) (λ _. refl)
    (λ _. cond_both (b == 39 && not a) (ByteStep.Close Ending.Quote) (ByteStep.Keep (State.Quote (b == 64)))
    (λ s. is_quoted (after set limit s b seen bs).ending ≡ true) (λ _. refl) (λ _. quote_ends set limit bs (b == 64) (kept limit b seen)))

-- No other token keeps more than 32 bytes.

mark_first : (limit : ℕ) (o : Option Mark) →
    most_behind limit (elim o [ Some m ↦ ByteStep.Keep (State.Mark m) | None ↦ ByteStep.Close Ending.Unfit ]) ≤ 32
mark_first limit (Some m) = omega arith
mark_first limit None = omega arith

mark_more : (limit : ℕ) (m : Mark) (o : Option Mark) →
    most_behind limit (elim o [ Some x ↦ ByteStep.Keep (State.Mark x) | None ↦ ByteStep.Behind (Ending.Mark m) ]) ≤ 32
mark_more limit m (Some x) = omega arith
mark_more limit m None = omega arith

first_kept : (set : CharSet) (limit b : ℕ) → most_behind limit (step_of set State.Gap b) ≤ 32
first_kept set limit b =
    let P : ByteStep → Type 0 = λ s. most_behind limit s ≤ 32 in
    cond_both (is_white set b) _ _ P (λ _. omega arith) (λ _. cond_both (is_run_byte b) _ _ P (λ _. omega arith)
    (λ _. cond_both (b == 33) _ _ P (λ _. omega arith) (λ _. cond_both (b == 34) _ _ P (λ _. omega arith)
    (λ _. cond_both (b == 39) _ _ P (λ _. omega arith) (λ _. mark_first limit (first_mark b))))))

run_kept : (set : CharSet) (limit b : ℕ) (n : Bool) → most_behind limit (step_of set (State.Run n) b) ≤ 32
run_kept set limit b n = cond_both (is_run_byte b) (ByteStep.Keep (State.Run (n || b == 36))) (ByteStep.Behind (Ending.Run n))
    (λ s. most_behind limit s ≤ 32) (λ _. omega arith) (λ _. omega arith)

-- a token of which more than 32 bytes may be kept ends as a quoted one
keeps_quoted : (set : CharSet) (limit : ℕ) (s : State) (b : ℕ) (seen : Sight) (bs : List ℕ) → 32 < most_behind limit (step_of set s b) →
    is_quoted (find set limit s seen bs).ending ≡ true
keeps_quoted set limit State.Gap b seen bs less = absurd (omega (arith, first_kept set limit b))
keeps_quoted set limit State.Comment b seen bs less = absurd (omega arith)
keeps_quoted set limit (State.Run n) b seen bs less = absurd (omega (arith, run_kept set limit b n))
keeps_quoted set limit (State.Mark m) b seen bs less = absurd (omega (arith, mark_more limit m (longer_mark m b)))
keeps_quoted set limit State.Text b seen bs less = text_ends set limit bs seen
keeps_quoted set limit (State.Quote a) b seen bs less = quote_ends set limit bs a seen

pub quoted_from : (set : CharSet) (limit : ℕ) (s : State) (b : ℕ) (seen : Sight) (bs : List ℕ) (f : Found) →
    32 < most_behind limit (step_of set s b) → find set limit s seen bs ≡ f → is_quoted f.ending ≡ true
quoted_from set limit s b seen bs f less e = ap (λ (g : Found). is_quoted g.ending) (sym e) ∙ keeps_quoted set limit s b seen bs less

-- a token of which more than 32 bytes may be kept in this state ends as a quoted one
pub quoted_in : (set : CharSet) (limit : ℕ) (s : State) (seen : Sight) (bs : List ℕ) (f : Found) → 32 < most limit s →
    find set limit s seen bs ≡ f → is_quoted f.ending ≡ true
quoted_in set limit s seen bs f less e = ap (λ (g : Found). is_quoted g.ending) (sym e) ∙ by s less where
  by : (s : State) → 32 < most limit s → is_quoted (find set limit s seen bs).ending ≡ true
  by State.Gap less = absurd (omega arith)
  by State.Comment less = absurd (omega arith)
  by (State.Run n) less = absurd (omega arith)
  by (State.Mark m) less = absurd (omega arith)
  by State.Text less = text_ends set limit bs seen
  by (State.Quote a) less = quote_ends set limit bs a seen
