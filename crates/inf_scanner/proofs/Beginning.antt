-- A byte that is a mark begins a mark: it is neither white space nor in a name, and begins no comment, text or quote.
use Rattle.std.proofs.Common.{◌≡◌, ℕ, cond, ◌==◌, Bool, true, false, Option, Some, None, refl, ap, ◌∙◌}
use Rattle.std.proofs.lemmas.Bool.{eqb-true}
use Rattle.inf_characters.specs.declared.characters.CharSet.{CharSet}
use Rattle.inf_scanner.specs.{Marks.first_mark, Scanning.begin, declared.scanner.ByteStep.ByteStep, declared.scanner.State.State}
use Rattle.inf_scanner.specs.{declared.tokens.Mark.Mark}

abbrev begins : Mark → ByteStep
begins m = ByteStep.Keep (State.Mark m)

both : (n : ℕ) (x : Mark) → begin CharSet.Ascii n ≡ begins x → begin CharSet.Latin1 n ≡ begins x → (set : CharSet) → begin set n ≡ begins x
both n x ascii latin1 CharSet.Ascii = ascii
both n x ascii latin1 CharSet.Latin1 = latin1

pick : (set : CharSet) (b n : ℕ) (x m : Mark) (later : Option Mark) → ((set : CharSet) → begin set n ≡ begins x)
    → (later ≡ Some m → begin set b ≡ begins m) → cond (b == n) (Some x) later ≡ Some m → begin set b ≡ begins m
pick set b n x m later is next = by (b == n) refl where
  by : (t : Bool) → b == n ≡ t → cond t (Some x) later ≡ Some m → begin set b ≡ begins m
  by true e f =
      let same : x ≡ m = cc in ap (begin set) (eqb-true b n e) ∙ is set ∙ ap begins same
  by false e f = next f

none : (set : CharSet) (b : ℕ) (m : Mark) → None ≡ Some m → begin set b ≡ begins m
none set b m e = cc

pub begin_mark : (set : CharSet) (b : ℕ) (m : Mark) → first_mark b ≡ Some m → begin set b ≡ begins m
begin_mark set b m = (pick set b 45 Mark.Minus m _ (both 45 Mark.Minus refl refl) (pick set b 43 Mark.Plus m _ (both 43 Mark.Plus refl refl)
    (pick set b 42 Mark.Times m _ (both 42 Mark.Times refl refl) (pick set b 47 Mark.Divide m _ (both 47 Mark.Divide refl refl)
    (pick set b 37 Mark.Remainder m _ (both 37 Mark.Remainder refl refl) (pick set b 38 Mark.BitAnd m _ (both 38 Mark.BitAnd refl refl)
    (pick set b 124 Mark.BitOr m _ (both 124 Mark.BitOr refl refl) (pick set b 126 Mark.BitNot m _ (both 126 Mark.BitNot refl refl)
    (pick set b 61 Mark.Assign m _ (both 61 Mark.Assign refl refl) (pick set b 62 Mark.Greater m _ (both 62 Mark.Greater refl refl)
    (pick set b 60 Mark.Less m _ (both 60 Mark.Less refl refl) (pick set b 44 Mark.Comma m _ (both 44 Mark.Comma refl refl)
    (pick set b 59 Mark.Semicolon m _ (both 59 Mark.Semicolon refl refl) (pick set b 58 Mark.Colon m _ (both 58 Mark.Colon refl refl)
    (pick set b 40 Mark.OpenParenthesis m _ (both 40 Mark.OpenParenthesis refl refl)
    (pick set b 41 Mark.CloseParenthesis m _ (both 41 Mark.CloseParenthesis refl refl)
    (pick set b 91 Mark.OpenBracket m _ (both 91 Mark.OpenBracket refl refl)
    (pick set b 93 Mark.CloseBracket m _ (both 93 Mark.CloseBracket refl refl)
    (pick set b 123 Mark.OpenBrace m _ (both 123 Mark.OpenBrace refl refl)
    (pick set b 125 Mark.CloseBrace m _ (both 125 Mark.CloseBrace refl refl)
    (pick set b 46 Mark.Dot m _ (both 46 Mark.Dot refl refl) (pick set b 35 Mark.Hash m _ (both 35 Mark.Hash refl refl)
    (pick set b 63 Mark.Question m _ (both 63 Mark.Question refl refl) (pick set b 64 Mark.At m _ (both 64 Mark.At refl refl)
    (none set b m)))))))))))))))))))))))))
