-- The bytes that each token takes of its source, with any reader.
use Rattle.std.proofs.Common.{◌≡◌, ◌⊎◌, inl, inr, ℕ, ◌+◌, ◌<◌, List, [], ◌∷◌, ◌++◌, length, Bool, true, false, refl, sym, ap, ◌∙◌, arith}
use Rattle.std.proofs.Common.{append-nil, length-append}
use Rattle.inf_characters.specs.declared.characters.CharSet.{CharSet}
use Rattle.inf_devices.specs.declared.files.Files.{Ghosts as Files}
use Rattle.inf_lexer.specs.{Readers.Took, Reading.Heard, Unread.View}
use Rattle.inf_scanner.proofs.TokenLaws.{runs_are_short, tokens_take_bytes}
use Rattle.inf_scanner.specs.{Kinds.kind_of, TokenLaws.is_run, Tokens.Read, Tokens.next_token, Tokens.read_of, declared.lines.Lines.Lines}
use Rattle.inf_scanner.specs.{declared.scanner.Ending.Ending, declared.scanner.State.State, declared.tokens.TokenKind.TokenKind}
use Rattle.inf_scanner.specs.Scanning.{Found, Sight, begun, find}
use Rattle.inf_lexer.proofs.Reading.{heard_as, heard_same}

abbrev read_as : TokenKind → Sight → List ℕ → Read
read_as k seen rest = record { kind = k; line = seen.first; kept = seen.kept; lines = seen.lines; rest = rest }

-- the token of the finding that was heard
pub heard_token : {S : Type 0} {f : Files S} {a b : S} {u v : View} (set : CharSet) (limit : ℕ) {lines : Lines} {e : Ending}
    {seen : Sight} {k : TokenKind}
    → Heard Found f false a b u v (λ rest. record { ending = e; seen = seen; rest = rest }) (find set limit State.Gap (begun lines))
    → k ≡ kind_of set e seen.kept → Heard Read f false a b u v (read_as k seen) (next_token set limit lines)
heard_token {v = v} set limit {seen = seen} found is =
    heard_same (heard_as (read_of set) found) (λ rest may. ap (λ x. read_as x seen (v.left ++ rest)) is)

one_of : (k found : TokenKind) (before left bytes rest : List ℕ) (given now : ℕ) → k ≡ found → length (left ++ []) ≡ length rest →
    now ≡ given + length bytes → (found ≡ TokenKind.End) ⊎ (length rest < length (before ++ (bytes ++ []))) → (k ≡ TokenKind.End) ⊎
    (given + length left < now + length before)
one_of k found before left bytes rest given now same size count (inl is) = inl (same ∙ is)
one_of k found before left bytes rest given now same size count (inr less) =
    inr (omega (arith, size, count, less, length-append left [], length-append before (bytes ++ []), length-append bytes []))

over_of : (b : Bool) → (b ≡ false → ⊥) → b ≡ true
over_of true other = refl
over_of false other = absurd (other refl)

pub took_of : {S : Type 0} {f : Files S} {a b : S} {before after : View} (set : CharSet) (limit : ℕ) {lines : Lines} {seen : Sight}
    {k : TokenKind} → Heard Read f false a b before after (read_as k seen) (next_token set limit lines) → Took k before after seen.kept
took_of {before = before} {after = after} set limit {lines = lines} {seen = seen} {k = k} h =
    let heard = h.went in let bytes : List ℕ = before.left ++ (heard.bytes ++ []) in
    let same : read_as k seen (after.left ++ []) ≡ next_token set limit lines bytes = h.same [] (λ _. refl) in
    let takes = tokens_take_bytes set limit lines bytes in
    let kinds : k ≡ (next_token set limit lines bytes).kind = ap (λ (r : Read). r.kind) same in
    record {
      one = one_of k (next_token set limit lines bytes).kind before.left after.left heard.bytes (next_token set limit lines bytes).rest
          before.given after.given kinds (ap (λ (r : Read). length r.rest) same) heard.given takes.one;
      last = λ is. (
        sym (append-nil after.left) ∙ ap (λ (r : Read). r.rest) same ∙ takes.end (sym kinds ∙ is),
        over_of after.is_over (λ on.
            let more : List ℕ = before.left ++ (heard.bytes ++ (0 ∷ [])) in
            let then : read_as k seen (after.left ++ (0 ∷ [])) ≡ next_token set limit lines more =
            h.same (0 ∷ []) (λ over. absurd (let f : true ≡ false = sym over ∙ on in cc)) in
            let none = ap (λ (r : Read). length r.rest) then
            ∙ ap length ((tokens_take_bytes set limit lines more).end (sym (ap (λ (r : Read). r.kind) then) ∙ is)) in
            omega (arith, none, length-append after.left (0 ∷ []))),
      );
      again = λ at. kinds ∙ ap (λ l. (next_token set limit lines l).kind)
          (ap (λ l. l ++ (heard.bytes ++ [])) at.0 ∙ append-nil heard.bytes ∙ (heard.stops at.1).0);
      short = λ run.
          let kept = ap (λ (r : Read). length r.kept.bytes) same in
          omega (arith, kept, runs_are_short set limit lines bytes (ap is_run (sym kinds) ∙ run));
    }
