-- The classes of tokens, as sets of atoms. Made from docs/grammar.txt.
use Rattle.std.specs.Prelude.{ℕ, List, [], ◌∷◌, codes, map}
use Rattle.inf_syntax.specs.Atoms.{of_mark, of_word, name, classname, number, char, word_literal, text, joined, without}
use Rattle.inf_scanner.specs.declared.tokens.Mark.TheVariants as mark

abbrev pub operand : ℕ
operand = without name (map of_word (codes "has" ∷ codes "hasnt" ∷ codes "in" ∷ codes "notin" ∷ codes "ofclass" ∷ codes "provides" ∷
    codes "or" ∷ codes "to" ∷ []))

abbrev pub reserved : ℕ
reserved = without name (operand ∷ [])

abbrev pub bodyname : ℕ
bodyname = without name (map of_word (codes "with" ∷ codes "has" ∷ codes "class" ∷ []))

abbrev pub barename : ℕ
barename = without operand (map of_word (codes "with" ∷ codes "class" ∷ []))

abbrev pub statementword : ℕ
statementword = joined (map of_word (codes "if" ∷ codes "while" ∷ codes "do" ∷ codes "for" ∷ codes "objectloop" ∷ codes "switch" ∷
    codes "print" ∷ codes "print_ret" ∷ codes "return" ∷ codes "break" ∷ codes "continue" ∷ codes "quit" ∷ codes "rtrue" ∷ codes "rfalse" ∷
    codes "new_line" ∷ codes "jump" ∷ codes "give" ∷ codes "move" ∷ codes "remove" ∷ codes "spaces" ∷ codes "string" ∷ codes "style" ∷
    codes "else" ∷ []))

abbrev pub beginname : ℕ
beginname = without operand (statementword ∷ [])

abbrev pub casename : ℕ
casename = without beginname (map of_word (codes "default" ∷ []))

abbrev pub notdefault : ℕ
notdefault = without operand (map of_word (codes "default" ∷ []))

abbrev pub notadditive : ℕ
notadditive = without name (map of_word (codes "additive" ∷ []))

abbrev pub notalias : ℕ
notalias = without operand (map of_word (codes "alias" ∷ []))

abbrev pub notto : ℕ
notto = without name (map of_word (codes "to" ∷ []))

abbrev pub directiveword : ℕ
directiveword = joined (map of_word (codes "abbreviate" ∷ codes "attribute" ∷ codes "array" ∷ codes "class" ∷ codes "constant" ∷
    codes "default" ∷ codes "global" ∷ codes "end" ∷ codes "extend" ∷ codes "fake_action" ∷ codes "ifdef" ∷ codes "ifndef" ∷
    codes "iftrue" ∷ codes "iffalse" ∷ codes "ifnot" ∷ codes "endif" ∷ codes "include" ∷ codes "lowstring" ∷ codes "message" ∷
    codes "object" ∷ codes "nearby" ∷ codes "property" ∷ codes "release" ∷ codes "replace" ∷ codes "serial" ∷ codes "stub" ∷
    codes "switches" ∷ codes "system_file" ∷ codes "verb" ∷ []))

abbrev pub ofclass : ℕ
ofclass = without classname (directiveword ∷ [])

-- each class, in the order of its number
abbrev pub classes : List ℕ
classes = (of_mark mark.Semicolon) ∷ (of_mark mark.Hash) ∷ (of_mark mark.OpenBracket) ∷ name ∷ (of_mark mark.CloseBracket) ∷
    (of_word (codes "abbreviate")) ∷ text ∷ (of_word (codes "array")) ∷ (of_word (codes "class")) ∷ bodyname ∷ (of_word (codes "object")) ∷
    (of_word (codes "nearby")) ∷ ofclass ∷ (of_word (codes "extend")) ∷ word_literal ∷ (of_word (codes "verb")) ∷ (of_mark mark.Arrow) ∷
    (of_mark mark.LongArrow) ∷ (of_word (codes "string")) ∷ (of_word (codes "table")) ∷ (of_word (codes "first")) ∷
    (of_word (codes "last")) ∷ (of_word (codes "replace")) ∷ (of_word (codes "meta")) ∷ (of_mark mark.Assign) ∷
    (of_word (codes "attribute")) ∷ (of_word (codes "property")) ∷ (of_word (codes "fake_action")) ∷ (of_word (codes "iftrue")) ∷
    (of_word (codes "iffalse")) ∷ (of_word (codes "end")) ∷ (of_word (codes "system_file")) ∷ (of_word (codes "include")) ∷
    (of_word (codes "lowstring")) ∷ (of_word (codes "serial")) ∷ (of_word (codes "message")) ∷ (of_word (codes "release")) ∷
    (of_word (codes "stub")) ∷ number ∷ (of_word (codes "switches")) ∷ (of_word (codes "alias")) ∷ (of_word (codes "constant")) ∷
    (of_word (codes "default")) ∷ (of_word (codes "global")) ∷ (of_word (codes "additive")) ∷ notadditive ∷ (of_word (codes "error")) ∷
    (of_word (codes "warning")) ∷ (of_word (codes "fatalerror")) ∷ notalias ∷ (of_mark mark.Comma) ∷ (of_word (codes "with")) ∷
    (of_word (codes "has")) ∷ (of_mark mark.Minus) ∷ barename ∷ (of_mark mark.BitNot) ∷ (of_mark mark.Times) ∷ (of_mark mark.Divide) ∷
    (of_word (codes "reverse")) ∷ (of_mark mark.LogicalNot) ∷ (of_mark mark.LogicalAnd) ∷ (of_mark mark.LogicalOr) ∷ (of_mark mark.Equal) ∷
    (of_mark mark.NotEqual) ∷ (of_mark mark.Less) ∷ (of_mark mark.Greater) ∷ (of_mark mark.LessOrEqual) ∷ (of_mark mark.GreaterOrEqual) ∷
    (of_word (codes "hasnt")) ∷ (of_word (codes "in")) ∷ (of_word (codes "notin")) ∷ (of_word (codes "ofclass")) ∷
    (of_word (codes "provides")) ∷ (of_word (codes "or")) ∷ (of_mark mark.Plus) ∷ (of_mark mark.Remainder) ∷ (of_mark mark.BitAnd) ∷
    (of_mark mark.BitOr) ∷ (of_mark mark.Increment) ∷ (of_mark mark.Decrement) ∷ (of_mark mark.DotAnd) ∷ (of_mark mark.DotHash) ∷
    (of_mark mark.Dot) ∷ (of_mark mark.OpenParenthesis) ∷ (of_mark mark.CloseParenthesis) ∷ operand ∷ char ∷ (of_mark mark.DoubleHash) ∷
    beginname ∷ (of_word (codes "return")) ∷ (of_word (codes "jump")) ∷ (of_word (codes "give")) ∷ (of_word (codes "move")) ∷
    (of_word (codes "style")) ∷ (of_word (codes "if")) ∷ (of_word (codes "while")) ∷ (of_word (codes "do")) ∷ (of_word (codes "for")) ∷
    (of_word (codes "objectloop")) ∷ (of_word (codes "switch")) ∷ (of_word (codes "print")) ∷ (of_word (codes "print_ret")) ∷
    (of_word (codes "remove")) ∷ (of_word (codes "spaces")) ∷ (of_word (codes "break")) ∷ (of_word (codes "continue")) ∷
    (of_word (codes "quit")) ∷ (of_word (codes "rtrue")) ∷ (of_word (codes "rfalse")) ∷ (of_word (codes "new_line")) ∷
    (of_mark mark.OpenBrace) ∷ (of_mark mark.CloseBrace) ∷ (of_mark mark.DoubleLess) ∷ (of_mark mark.DoubleGreater) ∷ (of_mark mark.At) ∷
    (of_word (codes "else")) ∷ (of_word (codes "until")) ∷ (of_mark mark.Colon) ∷ (of_word (codes "to")) ∷ (of_mark mark.Question) ∷
    reserved ∷ casename ∷ notto ∷ notdefault ∷ []
