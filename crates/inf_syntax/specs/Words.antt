-- The words that the grammar knows, in the order of the alphabet. Made from docs/grammar.txt.
use Rattle.std.specs.Prelude.{ℕ, List, [], ◌∷◌, codes}
use Rattle.inf_syntax.specs.declared.words.Keyword.{Keyword}
use Rattle.inf_syntax.specs.declared.words.Keyword.TheVariants as keyword

abbrev pub words : List (List ℕ)
words = codes "abbreviate" ∷ codes "additive" ∷ codes "alias" ∷ codes "array" ∷ codes "attribute" ∷ codes "break" ∷ codes "class" ∷
    codes "constant" ∷ codes "continue" ∷ codes "default" ∷ codes "do" ∷ codes "else" ∷ codes "end" ∷ codes "endif" ∷ codes "error" ∷
    codes "extend" ∷ codes "fake_action" ∷ codes "fatalerror" ∷ codes "first" ∷ codes "for" ∷ codes "give" ∷ codes "global" ∷ codes "has" ∷
    codes "hasnt" ∷ codes "if" ∷ codes "ifdef" ∷ codes "iffalse" ∷ codes "ifndef" ∷ codes "ifnot" ∷ codes "iftrue" ∷ codes "in" ∷
    codes "include" ∷ codes "jump" ∷ codes "last" ∷ codes "lowstring" ∷ codes "message" ∷ codes "meta" ∷ codes "move" ∷ codes "nearby" ∷
    codes "new_line" ∷ codes "notin" ∷ codes "object" ∷ codes "objectloop" ∷ codes "ofclass" ∷ codes "or" ∷ codes "print" ∷
    codes "print_ret" ∷ codes "property" ∷ codes "provides" ∷ codes "quit" ∷ codes "release" ∷ codes "remove" ∷ codes "replace" ∷
    codes "return" ∷ codes "reverse" ∷ codes "rfalse" ∷ codes "rtrue" ∷ codes "serial" ∷ codes "spaces" ∷ codes "string" ∷ codes "stub" ∷
    codes "style" ∷ codes "switch" ∷ codes "switches" ∷ codes "system_file" ∷ codes "table" ∷ codes "to" ∷ codes "until" ∷ codes "verb" ∷
    codes "warning" ∷ codes "while" ∷ codes "with" ∷ []

-- the words of the grammar as keywords, in the order of `words`
unfoldable pub keywords : List Keyword
keywords = keyword.Abbreviate ∷ keyword.Additive ∷ keyword.Alias ∷ keyword.Array ∷ keyword.Attribute ∷ keyword.Break ∷ keyword.Class ∷
    keyword.Constant ∷ keyword.Continue ∷ keyword.Default ∷ keyword.Do ∷ keyword.Else ∷ keyword.End ∷ keyword.Endif ∷ keyword.Error ∷
    keyword.Extend ∷ keyword.FakeAction ∷ keyword.Fatalerror ∷ keyword.First ∷ keyword.For ∷ keyword.Give ∷ keyword.Global ∷ keyword.Has ∷
    keyword.Hasnt ∷ keyword.If ∷ keyword.Ifdef ∷ keyword.Iffalse ∷ keyword.Ifndef ∷ keyword.Ifnot ∷ keyword.Iftrue ∷ keyword.In ∷
    keyword.Include ∷ keyword.Jump ∷ keyword.Last ∷ keyword.Lowstring ∷ keyword.Message ∷ keyword.Meta ∷ keyword.Move ∷ keyword.Nearby ∷
    keyword.NewLine ∷ keyword.Notin ∷ keyword.Object ∷ keyword.Objectloop ∷ keyword.Ofclass ∷ keyword.Or ∷ keyword.Print ∷
    keyword.PrintRet ∷ keyword.Property ∷ keyword.Provides ∷ keyword.Quit ∷ keyword.Release ∷ keyword.Remove ∷ keyword.Replace ∷
    keyword.Return ∷ keyword.Reverse ∷ keyword.Rfalse ∷ keyword.Rtrue ∷ keyword.Serial ∷ keyword.Spaces ∷ keyword.String ∷ keyword.Stub ∷
    keyword.Style ∷ keyword.Switch ∷ keyword.Switches ∷ keyword.SystemFile ∷ keyword.Table ∷ keyword.To ∷ keyword.Until ∷ keyword.Verb ∷
    keyword.Warning ∷ keyword.While ∷ keyword.With ∷ []
