-- `print` and `print_ret`: item by item.
use Rattle.std.proofs.Common.{Bool, List, Some, [], ap, arith, false, refl, subst, sym, true, ℕ, ◌∙◌, ◌∷◌, ◌≡◌}
use Rattle.inf_characters.specs.{Items.IsText, declared.characters.CharSet.CharSet, declared.texts.TextItem.TextItem}
use Rattle.inf_text.specs.{Packing.packed, Parts.AreAbbreviations, Unpacking.strings, Unpacking.unpacked}
use Rattle.inf_text.proofs.Unpacks.{unpacks}
use Rattle.inf_expressions.specs.Trees.{Tree}
use Rattle.inf_settings.specs.Bounds.{Limits}
use Rattle.inf_opcode.specs.{Instructions.Parts, Instructions.bare, declared.opcodes.Opcode.Opcode}
use Rattle.inf_output.specs.{Output.Out, Output.laid, Output.nothing, Texts.used_in, declared.items.Item.Item as Laid}
use Rattle.inf_output.specs.{declared.veneer.Veneer.Veneer}
use Rattle.inf_unit.specs.{Tokens.SourceToken, declared.items.Item.Item, declared.items.PrintRule.PrintRule}
use Rattle.inf_operands.specs.Texts.{text_at, text_packed}
use Rattle.inf_statements.specs.{Effects.Site, Statements.one_worked, Statements.printed as text_printed}
use Rattle.inf_statements.specs.{declared.statements.Statement.Statement}
use Rattle.inf_statements.specs.Printing.{called_with, ended, ends_behind, item_code, items_printed, rest_behind, rule_code, text_opcode}
use Rattle.inf_statements.specs.Printing.{trees_behind, veneer_called}
use Rattle.inf_interpreter.specs.Claims.{Comes, state}
use Rattle.inf_interpreter.specs.Machine.{AtAddress, AtPacked, Character, LineEnd, Number, ShortName, Text, Told, World, Writes, action_of}
use Rattle.inf_interpreter.specs.Machine.{tells, text_told, write_of_one, ◌then◌}
use Rattle.inf_interpreter.proofs.Laying.{Always, Then, laid_, so, then_}
use Rattle.inf_interpreter.proofs.Running.{here, none_some, opened, same_some, stepping}
use Rattle.inf_meaning_laws.specs.Laws.{GivesNothing}
use Rattle.inf_control_laws.specs.{Control.Done, Control.Effect, Control.Returned, Runs.Exits, Runs.Lays, Runs.Runs}
use Rattle.inf_control_laws.proofs.{Plain.fixed_runs, Plain.leaves_at, Plain.stays_done, Reaching.ends_as}
use Rattle.inf_control_laws.proofs.Laying.{lays_code, lays_so, lays_then, none_alike, none_then}
use Rattle.inf_code_walk.proofs.{Rows.Any, Rows.any_trees, Statements.any_fixed, Statements.code_made}
use Rattle.inf_effect_laws.specs.Described.{AsAddress, AsCharacter, AsObject, AsString, By, Capital, Definite, InWords, Indefinite, Name}
use Rattle.inf_effect_laws.specs.Described.{Printed, Value, Words, printed, printed_then, routine_run, told_as}
use Rattle.inf_effect_laws.specs.Written.{AllCovered, CoversItem, CoversItems, HasTexts, item_in, items_in, ruled}
use Rattle.inf_effect_laws.proofs.Texts.{KeepsTexts, made_keeps}
use Rattle.inf_effect_laws.proofs.Changes.{call_runs, changed_then, line_ended, routine_runs, written_}

-- Lemmas about texts

pub texts_stay : (w : World) (a b : Out) → used_in b.texts ≡ used_in a.texts → HasTexts w a → HasTexts w b
texts_stay w a b e h = record { spelled = h.spelled ∙ ap strings (sym e); are = subst (λ l. AreAbbreviations l) (sym e) h.are }

abbrev parts_with : Opcode → List TextItem → Out → Parts
parts_with op text o = record (bare op) { text = packed text (used_in o.texts) }

-- An interpreter reads the text in its packed bytes.
text_is : (w : World) (op : Opcode) (text : List TextItem) → IsText text → (o : Out) → HasTexts w o →
    unpacked w.abbreviations (parts_with op text o).text ≡ text
text_is w op text h o has = ap (λ a. unpacked a (packed text (used_in o.texts))) has.spelled ∙ unpacks (used_in o.texts) text has.are h

text_lays : (w : World) (limits : Limits) (text : List TextItem) → IsText text → (o : Out) → HasTexts w o →
    Lays w (GivesNothing w (printed w (Words text))) o (text_printed limits Opcode.Print (Some text) o)
text_lays w limits text h o has =
    let P = GivesNothing w (printed w (Words text)) in
    let i = parts_with Opcode.Print text o in
    none_then w P o (text_packed o) (laid limits (Laid.Instruction i) (text_packed o)) (none_alike o (text_packed o) refl refl refl refl)
    (lays_code w (laid limits (Laid.Instruction i)) P
    (so (λ at from to place stack temp s t e. (
      temp,
      subst (λ u. Comes w at from (state stack temp s) to (state stack temp u))
          (ap (λ l. tells (Text l) s) (text_is w Opcode.Print text h o has) ∙ same_some e)
          (stepping w at (Laid.Instruction i) from to (state stack temp s) (to, state stack temp (text_told w i.text s)) place refl),
    )) (laid_ limits i)) (text_packed o))

-- The last text of `print_ret` ends the line, and leaves the routine.
abbrev pub line_returns : Effect
line_returns s = Some (Returned 1, tells LineEnd s)

text_returns : (w : World) (limits : Limits) (x : Exits) (text : List TextItem) → IsText text → (o : Out) → HasTexts w o →
    Lays w (Runs w x (printed_then w (Words text ∷ []) line_returns)) o (text_printed limits Opcode.PrintRet (Some text) o)
text_returns w limits x text h o has =
    let P = Runs w x (printed_then w (Words text ∷ []) line_returns) in
    let i = parts_with Opcode.PrintRet text o in
    none_then w P o (text_packed o) (laid limits (Laid.Instruction i) (text_packed o)) (none_alike o (text_packed o) refl refl refl refl)
    (lays_code w (laid limits (Laid.Instruction i)) P
    (so (λ at from to place stack temp s r t e.
    let now = state stack temp s in
    let u = tells LineEnd (tells (Text text) s) in
    ends_as w x at from to now stack temp (Returned 1) r u t e
    (leaves_at w at from from to (Laid.Instruction i) now now 1 u (here w at from now) place
    (ap (λ l. Some (1, tells LineEnd (tells (Text l) s))) (text_is w Opcode.PrintRet text h o has))))
    (laid_ limits i)) (text_packed o))

-- Each item of `print` keeps the abbreviations.

abbrev alone_at : CharSet → List SourceToken → Item → Site
alone_at set tokens i = record { set = set; tokens = tokens; begun = 0; items = i ∷ []; locals = []; constructs = [] }

item_keeps : (limits : Limits) (set : CharSet) (tokens : List SourceToken) (i : Item) (trees : List Tree) →
    KeepsTexts (items_printed limits set tokens false false (i ∷ []) trees)
item_keeps limits set tokens i trees =
    made_keeps (code_made limits Any any_fixed (alone_at set tokens i) trees (any_trees trees) Statement.Print)

item_has : (w : World) (limits : Limits) (set : CharSet) (tokens : List SourceToken) (returns : Bool) (others : List Item) →
    text_opcode returns others ≡ Opcode.Print → (i : Item) (trees : List Tree) (o : Out) → HasTexts w o →
    HasTexts w (item_code limits set tokens returns others i trees o)
item_has w limits set tokens returns others is (Item.Text at) trees o h =
    subst (λ op. HasTexts w (text_printed limits op (text_at set tokens at) o)) (sym is)
    (texts_stay w o (text_printed limits Opcode.Print (text_at set tokens at) o)
    ((item_keeps limits set tokens (Item.Text at) trees).keeps o) h)
item_has w limits set tokens returns others is Item.Value trees o h =
    texts_stay w o (item_code limits set tokens returns others Item.Value trees o)
    ((item_keeps limits set tokens Item.Value trees).keeps o) h
item_has w limits set tokens returns others is (Item.Ruled r) trees o h =
    texts_stay w o (item_code limits set tokens returns others (Item.Ruled r) trees o)
    ((item_keeps limits set tokens (Item.Ruled r) trees).keeps o) h
item_has w limits set tokens returns others is _ trees o h = h

-- Lemmas about an item that is known
abbrev Prints : World → Printed × List Tree → Out → Out → Type 0
Prints w q a b = Lays w (GivesNothing w (printed w q.0)) a b

by_item : (w : World) (a b : Out) (p q : Printed × List Tree) → Some p ≡ Some q → CoversItem q.0 → (CoversItem p.0 → Prints w p a b) →
    Prints w q a b
by_item w a b p q e h k =
    let same = same_some e in subst (λ z. Prints w z a b) same (k (subst (λ z. CoversItem z.0) (sym same) h))

-- A value is printed by an instruction, or by a supplied routine.
value_lays : (w : World) (limits : Limits) (op : Opcode) (how : ℕ → Told) → action_of w op ≡ Writes (write_of_one (λ n. tells (how n))) →
    (e : Tree) (trees : List Tree) → AllCovered (e ∷ []) → (o : Out) →
    Lays w (GivesNothing w (told_as w how e)) o (one_worked limits op (e ∷ trees) o)
value_lays w limits op how act e trees h o = lays_code w (one_worked limits op (e ∷ trees)) (GivesNothing w (told_as w how e))
    (written_ w limits op (write_of_one (λ n. tells (how n))) act (e ∷ []) h) o

veneer_lays : (w : World) (limits : Limits) (v : Veneer) (e : Tree) (trees : List Tree) → AllCovered (e ∷ []) → (o : Out) →
    Lays w (GivesNothing w (routine_run w v (e ∷ []))) o (veneer_called limits v (e ∷ trees) o)
veneer_lays w limits v e trees h o = lays_code w (veneer_called limits v (e ∷ trees)) (GivesNothing w (routine_run w v (e ∷ [])))
    (routine_runs w limits v (e ∷ []) h (omega arith)) o

ruled_lays : (w : World) (limits : Limits) (r : PrintRule) (e : Tree) (trees : List Tree) (q : Printed × List Tree) →
    ruled r e trees ≡ Some q → CoversItem q.0 → (o : Out) → Prints w q o (rule_code limits r (e ∷ trees) o)
unfolding rule_code
ruled_lays w limits PrintRule.Character e trees q is h o =
    by_item w o (one_worked limits Opcode.PrintChar (e ∷ trees) o) (AsCharacter e, trees) q is h
    (λ c. value_lays w limits Opcode.PrintChar Character refl e trees c o)
ruled_lays w limits PrintRule.String e trees q is h o =
    by_item w o (one_worked limits Opcode.PrintPaddr (e ∷ trees) o) (AsString e, trees) q is h
    (λ c. value_lays w limits Opcode.PrintPaddr AtPacked refl e trees c o)
ruled_lays w limits PrintRule.Address e trees q is h o =
    by_item w o (one_worked limits Opcode.PrintAddr (e ∷ trees) o) (AsAddress e, trees) q is h
    (λ c. value_lays w limits Opcode.PrintAddr AtAddress refl e trees c o)
ruled_lays w limits PrintRule.Object e trees q is h o =
    by_item w o (one_worked limits Opcode.PrintObj (e ∷ trees) o) (AsObject e, trees) q is h
    (λ c. value_lays w limits Opcode.PrintObj ShortName refl e trees c o)
ruled_lays w limits PrintRule.ShortName e trees q is h o =
    by_item w o (veneer_called limits Veneer.ShortName (e ∷ trees) o) (Name e, trees) q is h
    (λ c. veneer_lays w limits Veneer.ShortName e trees c o)
ruled_lays w limits PrintRule.DefiniteArticle e trees q is h o =
    by_item w o (veneer_called limits Veneer.DefiniteArticle (e ∷ trees) o) (Definite e, trees) q is h
    (λ c. veneer_lays w limits Veneer.DefiniteArticle e trees c o)
ruled_lays w limits PrintRule.CapitalArticle e trees q is h o =
    by_item w o (veneer_called limits Veneer.CapitalArticle (e ∷ trees) o) (Capital e, trees) q is h
    (λ c. veneer_lays w limits Veneer.CapitalArticle e trees c o)
ruled_lays w limits PrintRule.IndefiniteArticle e trees q is h o =
    by_item w o (veneer_called limits Veneer.IndefiniteArticle (e ∷ trees) o) (Indefinite e, trees) q is h
    (λ c. veneer_lays w limits Veneer.IndefiniteArticle e trees c o)
ruled_lays w limits PrintRule.EnglishNumber e trees q is h o =
    by_item w o (veneer_called limits Veneer.EnglishNumber (e ∷ trees) o) (InWords e, trees) q is h
    (λ c. veneer_lays w limits Veneer.EnglishNumber e trees c o)
ruled_lays w limits PrintRule.Routine e [] q is h o = none_some is
ruled_lays w limits PrintRule.Routine e (f ∷ trees) q is h o = by_item w o (called_with limits (e ∷ f ∷ trees) o) (By e f, trees) q is h
    (λ c. lays_code w (called_with limits (e ∷ f ∷ trees)) (GivesNothing w (printed w (By e f))) (call_runs w limits e f c) o)

-- an item that is no last text of `print_ret`
item_lays : (w : World) (limits : Limits) (set : CharSet) (tokens : List SourceToken) (returns : Bool) (others : List Item) →
    text_opcode returns others ≡ Opcode.Print → (i : Item) (trees : List Tree) (q : Printed × List Tree) →
    item_in set tokens i trees ≡ Some q → CoversItem q.0 → (o : Out) → HasTexts w o →
    Prints w q o (item_code limits set tokens returns others i trees o)
item_lays w limits set tokens returns others opcode (Item.Text at) trees q is h o has =
    let m = opened (text_at set tokens at) (λ text. Some (Words text, trees)) q is in
    subst (λ op. Prints w q o (text_printed limits op (text_at set tokens at) o)) (sym opcode)
    (subst (λ text. Prints w q o (text_printed limits Opcode.Print text o)) (sym m.1)
    (by_item w o (text_printed limits Opcode.Print (Some m.0) o) (Words m.0, trees) q m.2 h (λ c. text_lays w limits m.0 c o has)))
item_lays w limits set tokens returns others opcode Item.Value [] q is h o has = none_some is
item_lays w limits set tokens returns others opcode Item.Value (e ∷ trees) q is h o has =
    by_item w o (one_worked limits Opcode.PrintNum (e ∷ trees) o) (Value e, trees) q is h
    (λ c. value_lays w limits Opcode.PrintNum Number refl e trees c o)
item_lays w limits set tokens returns others opcode (Item.Ruled r) [] q is h o has = none_some is
item_lays w limits set tokens returns others opcode (Item.Ruled r) (e ∷ trees) q is h o has = ruled_lays w limits r e trees q is h o
item_lays w limits set tokens returns others opcode _ trees q is h o has = none_some is

-- the expressions behind an item
ruled_rest : (r : PrintRule) (e : Tree) (trees : List Tree) (q : Printed × List Tree) → ruled r e trees ≡ Some q →
    rest_behind r (e ∷ trees) ≡ q.1
ruled_rest PrintRule.Character e trees q is = ap (λ (z : Printed × List Tree). z.1) (same_some is)
ruled_rest PrintRule.String e trees q is = ap (λ (z : Printed × List Tree). z.1) (same_some is)
ruled_rest PrintRule.Address e trees q is = ap (λ (z : Printed × List Tree). z.1) (same_some is)
ruled_rest PrintRule.Object e trees q is = ap (λ (z : Printed × List Tree). z.1) (same_some is)
ruled_rest PrintRule.ShortName e trees q is = ap (λ (z : Printed × List Tree). z.1) (same_some is)
ruled_rest PrintRule.DefiniteArticle e trees q is = ap (λ (z : Printed × List Tree). z.1) (same_some is)
ruled_rest PrintRule.CapitalArticle e trees q is = ap (λ (z : Printed × List Tree). z.1) (same_some is)
ruled_rest PrintRule.IndefiniteArticle e trees q is = ap (λ (z : Printed × List Tree). z.1) (same_some is)
ruled_rest PrintRule.EnglishNumber e trees q is = ap (λ (z : Printed × List Tree). z.1) (same_some is)
ruled_rest PrintRule.Routine e [] q is = none_some is
ruled_rest PrintRule.Routine e (f ∷ trees) q is = ap (λ (z : Printed × List Tree). z.1) (same_some is)

item_rest : (set : CharSet) (tokens : List SourceToken) (i : Item) (trees : List Tree) (q : Printed × List Tree) →
    item_in set tokens i trees ≡ Some q → trees_behind i trees ≡ q.1
item_rest set tokens (Item.Text at) trees q is =
    let m = opened (text_at set tokens at) (λ text. Some (Words text, trees)) q is in
    ap (λ (z : Printed × List Tree). z.1) (same_some m.2)
item_rest set tokens Item.Value [] q is = none_some is
item_rest set tokens Item.Value (e ∷ trees) q is = ap (λ (z : Printed × List Tree). z.1) (same_some is)
item_rest set tokens (Item.Ruled r) [] q is = none_some is
item_rest set tokens (Item.Ruled r) (e ∷ trees) q is = ruled_rest r e trees q is
item_rest set tokens _ trees q is = none_some is

ends_false : (i : Item) → ends_behind i false ≡ false
ends_false (Item.Text at) = refl
ends_false _ = refl

-- One item, and the others behind it
one_more : (w : World) (x : Exits) (p : Printed) (others items : List Printed) (last : Effect) (a b c : Out) → p ∷ others ≡ items →
    Lays w (GivesNothing w (printed w p)) a b → Lays w (Runs w x (printed_then w others last)) b c →
    Lays w (Runs w x (printed_then w items last)) a c
one_more w x p others items last a b c same first second =
    let E = printed_then w others last in
    subst (λ l. Lays w (Runs w x (printed_then w l last)) a c) same
    (lays_so w (Then (GivesNothing w (printed w p)) (Runs w x E)) (Runs w x (printed_then w (p ∷ others) last)) a c
    (changed_then w x (printed w p) E) (lays_then w (GivesNothing w (printed w p)) (Runs w x E) a b c first second))

-- The first of some items, and the others, of a list that is known
record Parted (set : CharSet) (tokens : List SourceToken) (i : Item) (items : List Item) (trees : List Tree) (all : List Printed) : Type 0
  where
    q : Printed × List Tree
    others : List Printed
    first : item_in set tokens i trees ≡ Some q
    behind : items_in set tokens items q.1 ≡ Some others
    same : q.0 ∷ others ≡ all

parted : (set : CharSet) (tokens : List SourceToken) (i : Item) (items : List Item) (trees : List Tree) (all : List Printed) →
    items_in set tokens (i ∷ items) trees ≡ Some all → Parted set tokens i items trees all
parted set tokens i items trees all e =
    let a = opened (item_in set tokens i trees) (λ p. items_in set tokens items p.1 then λ others. Some (p.0 ∷ others)) all e in
    let b = opened (items_in set tokens items a.0.1) (λ others. Some (a.0.0 ∷ others)) all a.2 in
    record { q = a.0; others = b.0; first = a.1; behind = b.1; same = same_some b.2 }

-- Lemmas about `print`
pub items_lay : (w : World) (limits : Limits) (x : Exits) (set : CharSet) (tokens : List SourceToken) (items : List Item)
    (trees : List Tree) (all : List Printed) → items_in set tokens items trees ≡ Some all → CoversItems all → (o : Out) → HasTexts w o →
    Lays w (Runs w x (printed_then w all (λ s. Some (Done, s)))) o (items_printed limits set tokens false false items trees o)
items_lay w limits x set tokens [] trees all e h o has =
    subst (λ l. Lays w (Runs w x (printed_then w l (λ s. Some (Done, s)))) o o) (same_some e)
    (lays_code w nothing (Runs w x (λ s. Some (Done, s))) (stays_done w x) o)
items_lay w limits x set tokens (i ∷ items) trees all e h o has =
    let p = parted set tokens i items trees all e in
    let covers : CoversItems (p.q.0 ∷ p.others) = subst (λ l. CoversItems l) (sym p.same) h in
    let m = item_code limits set tokens false items i trees o in
    let later = items_lay w limits x set tokens items p.q.1 p.others p.behind covers.1 m
    (item_has w limits set tokens false items refl i trees o has) in
    let E = Runs w x (printed_then w p.others (λ s. Some (Done, s))) in
    one_more w x p.q.0 p.others all (λ s. Some (Done, s)) o m
    (items_printed limits set tokens false (ends_behind i false) items (trees_behind i trees) m) p.same
    (item_lays w limits set tokens false items refl i trees p.q p.first covers.0 o has)
    (subst (λ b. Lays w E m (items_printed limits set tokens false b items (trees_behind i trees) m)) (sym (ends_false i))
    (subst (λ l. Lays w E m (items_printed limits set tokens false false items l m)) (sym (item_rest set tokens i trees p.q p.first))
    later))

-- Lemmas about `print_ret`
return_lays : (w : World) (limits : Limits) (x : Exits) → Always w (ended limits true) (Runs w x line_returns)
return_lays w limits x = so (changed_then w x (λ s. Some (tells LineEnd s)) (λ s. Some (Returned 1, s)))
    (then_ (line_ended w limits) (fixed_runs w limits x).0)

-- a last item that is no text
last_lays : (w : World) (limits : Limits) (x : Exits) (p : Printed) (all : List Printed) (a b : Out) → p ∷ [] ≡ all →
    Lays w (GivesNothing w (printed w p)) a b → Lays w (Runs w x (printed_then w all line_returns)) a (ended limits true b)
last_lays w limits x p all a b same first = one_more w x p [] all line_returns a b (ended limits true b) same first
    (lays_code w (ended limits true) (Runs w x line_returns) (return_lays w limits x) b)

last_item : (w : World) (limits : Limits) (x : Exits) (set : CharSet) (tokens : List SourceToken) (i : Item) (trees : List Tree)
    (q : Printed × List Tree) (all : List Printed) → item_in set tokens i trees ≡ Some q → q.0 ∷ [] ≡ all → CoversItem q.0 → (o : Out) →
    HasTexts w o → (ends : Bool) →
    Lays w (Runs w x (printed_then w all line_returns)) o (items_printed limits set tokens true ends (i ∷ []) trees o)
last_item w limits x set tokens (Item.Text at) trees q all is same h o has ends =
    let m = opened (text_at set tokens at) (λ text. Some (Words text, trees)) q is in
    let first : Words m.0 ≡ q.0 = ap (λ (z : Printed × List Tree). z.0) (same_some m.2) in
    subst (λ text. Lays w (Runs w x (printed_then w all line_returns)) o (text_printed limits Opcode.PrintRet text o)) (sym m.1)
    (subst (λ l. Lays w (Runs w x (printed_then w l line_returns)) o (text_printed limits Opcode.PrintRet (Some m.0) o))
    (ap (λ p. p ∷ []) first ∙ same)
    (text_returns w limits x m.0 (subst (λ p. CoversItem p) (sym first) h) o has))
last_item w limits x set tokens Item.Value trees q all is same h o has ends =
    last_lays w limits x q.0 all o (item_code limits set tokens true [] Item.Value trees o) same
    (item_lays w limits set tokens true (Item.Value ∷ []) refl Item.Value trees q is h o has)
last_item w limits x set tokens (Item.Ruled r) trees q all is same h o has ends =
    last_lays w limits x q.0 all o (item_code limits set tokens true [] (Item.Ruled r) trees o) same
    (item_lays w limits set tokens true (Item.Value ∷ []) refl (Item.Ruled r) trees q is h o has)
last_item w limits x set tokens _ trees q all is same h o has ends = none_some is

pub returned_lay : (w : World) (limits : Limits) (x : Exits) (set : CharSet) (tokens : List SourceToken) (i : Item) (items : List Item)
    (trees : List Tree) (all : List Printed) → items_in set tokens (i ∷ items) trees ≡ Some all → CoversItems all → (o : Out) →
    HasTexts w o → (ends : Bool) →
    Lays w (Runs w x (printed_then w all line_returns)) o (items_printed limits set tokens true ends (i ∷ items) trees o)
returned_lay w limits x set tokens i [] trees all e h o has ends =
    let p = parted set tokens i [] trees all e in
    let covers : CoversItems (p.q.0 ∷ p.others) = subst (λ l. CoversItems l) (sym p.same) h in
    last_item w limits x set tokens i trees p.q all p.first (ap (λ l. p.q.0 ∷ l) (same_some p.behind) ∙ p.same) covers.0 o has ends
returned_lay w limits x set tokens i (j ∷ items) trees all e h o has ends =
    let p = parted set tokens i (j ∷ items) trees all e in
    let covers : CoversItems (p.q.0 ∷ p.others) = subst (λ l. CoversItems l) (sym p.same) h in
    let m = item_code limits set tokens true (j ∷ items) i trees o in
    let later = returned_lay w limits x set tokens j items p.q.1 p.others p.behind covers.1 m
    (item_has w limits set tokens true (j ∷ items) refl i trees o has) (ends_behind i true) in
    let E = Runs w x (printed_then w p.others line_returns) in
    one_more w x p.q.0 p.others all line_returns o m
    (items_printed limits set tokens true (ends_behind i true) (j ∷ items) (trees_behind i trees) m) p.same
    (item_lays w limits set tokens true (j ∷ items) refl i trees p.q p.first covers.0 o has)
    (subst (λ l. Lays w E m (items_printed limits set tokens true (ends_behind i true) (j ∷ items) l m))
    (sym (item_rest set tokens i trees p.q p.first)) later)
