-- Each statement, by what it is.
use Rattle.std.proofs.Common.{arith, ◌≡◌, ℕ, ◌+◌, ◌*◌, ◌%◌, Bool, List, [], ◌∷◌, Option, Some, None, true, false, refl, ◌∙◌, ap, sym}
use Rattle.std.proofs.Common.{subst}
use Rattle.inf_settings.specs.Bounds.{Limits}
use Rattle.inf_opcode.specs.declared.opcodes.Opcode.{Opcode}
use Rattle.inf_characters.specs.declared.texts.TextItem.{TextItem}
use Rattle.inf_text.specs.Packing.{packed}
use Rattle.inf_tables.specs.LowStrings.{low_fits}
use Rattle.inf_operands.specs.Texts.{text_packed}
use Rattle.inf_expressions.specs.{Trees.Leaf, Trees.Tree, declared.operators.Operand.Operand}
use Rattle.inf_output.specs.Output.{Code, Out, low_string_at, with_low_text, with_low_text_by}
use Rattle.inf_output.specs.declared.veneer.Veneer.{Veneer}
use Rattle.inf_unit.specs.declared.items.Item.{Item}
use Rattle.inf_statements.specs.{Effects.Site, Effects.last_text, Effects.name_behind, Effects.statement_code, Printing.items_printed}
use Rattle.inf_statements.specs.Statements.{action_laid, attributes_changed, moved, one_worked, plain, spaced, string_changed, string_set}
use Rattle.inf_statements.specs.Statements.{styled_by}
use Rattle.inf_statements.specs.declared.statements.Statement.{Statement}
use Rattle.inf_interpreter.specs.Machine.{LineEnd, Style, World, ◌then◌, tells, with_word, write_of_one, write_of_three, write_of_two}
use Rattle.inf_interpreter.proofs.Laying.{Always, nothing_, so, then_}
use Rattle.inf_interpreter.proofs.Running.{none_some, opened, same_some}
use Rattle.inf_templates.specs.Parts.{is, simple}
use Rattle.inf_meaning_laws.specs.{Laws.GivesNothing, Values.number}
use Rattle.inf_meaning_laws.proofs.{Instructions.writes_, Meant.simple_part}
use Rattle.inf_control_laws.specs.Control.{Change, Done}
use Rattle.inf_interpreter.proofs.Naming.{names_equal}
use Rattle.inf_control_laws.specs.Runs.{Exits, Lays, LaysNone, Runs, exits}
use Rattle.inf_control_laws.proofs.Laying.{lays_code, none_alike, none_both, none_past, none_then}
use Rattle.inf_control_laws.proofs.Plain.{fixed_runs}
use Rattle.inf_effect_laws.specs.Described.{Deed, DoAction, DoActionReturn, Give, Move, NewLine, Print, PrintReturn, Printed, Remove}
use Rattle.inf_effect_laws.specs.Described.{SetString, SetStyle, Spaces, args_of, effect, given, goes_on, routine_run, string_variables}
use Rattle.inf_effect_laws.specs.Described.{style_in, styles, with_values}
use Rattle.inf_effect_laws.specs.Described as described
use Rattle.inf_effect_laws.specs.{Laws.EffectsAreLaid, Written.AllCovered, Written.Covers}
use Rattle.inf_effect_laws.specs.Written.{HasTexts, action_in, attributes_in, deed_of, first_of, give_in, items_in, move_in, one_in}
use Rattle.inf_effect_laws.proofs.Changes.{change_ends, change_returns, line_ended, routine_runs, written_}
use Rattle.inf_effect_laws.proofs.{Giving.given_lays, Printing.items_lay, Printing.returned_lay}

-- Code that changes the store, as a statement
changes : (w : World) (x : Exits) (c : Code) (change : Change) → Always w c (GivesNothing w change) → Always w c (Runs w x (goes_on change))
changes w x c change h = so (change_ends w x change) h

-- Lemmas about a statement that is known
abbrev Has : World → Exits → Deed → Out → Out → Type 0
Has w x d a b = Lays w (Runs w x (effect w d)) a b

by_deed : (w : World) (x : Exits) (a b : Out) (d e : Deed) → Some d ≡ Some e → Covers e → (Covers d → Has w x d a b) → Has w x e a b
by_deed w x a b d e is h k =
    let same = same_some is in subst (λ z. Has w x z a b) same (k (subst (λ z. Covers z) (sym same) h))

-- `print_ret` has an item at least.
return_by : (w : World) (limits : Limits) (x : Exits) (site : Site) (items : List Item) (trees : List Tree) (all : List Printed)
    (d : Deed) → items_in site.set site.tokens items trees ≡ Some all → first_of all ≡ Some d → Covers d → (o : Out) → HasTexts w o →
    Has w x d o (items_printed limits site.set site.tokens true false items trees o)
return_by w limits x site [] trees all d e f h o has = none_some (ap first_of (same_some e) ∙ f)
return_by w limits x site (i ∷ items) trees [] d e f h o has = none_some f
return_by w limits x site (i ∷ items) trees (p ∷ others) d e f h o has =
    by_deed w x o (items_printed limits site.set site.tokens true false (i ∷ items) trees o) (PrintReturn p others) d f h
    (λ c. returned_lay w limits x site.set site.tokens i items trees (p ∷ others) e c o has false)

-- A style is set by its number.
style_set : (w : World) (limits : Limits) (x : Exits) (style : Option ℕ) →
    Always w (styled_by limits style) (Runs w x (λ s. style then λ n. Some (Done, tells (Style n) s)))
style_set w limits x None = so (λ at from to g stack temp s r t e. none_some e) nothing_
style_set w limits x (Some n) = so (change_ends w x (λ s. Some (tells (Style n) s)))
    (writes_ false w limits Opcode.SetTextStyle (write_of_one (λ m. tells (Style m))) (is (simple (Operand.Known n)) ∷ []) (number n ∷ [])
    refl (simple_part w (Operand.Known n) (λ s. Some (n, s)), tt))

-- Lemmas about an action, with its nouns
acts : (w : World) (limits : Limits) (trees all : List Tree) → action_in trees ≡ Some all → AllCovered all →
    Always w (action_laid limits trees) (GivesNothing w (routine_run w Veneer.Process all))
acts w limits [] all e h = none_some e
acts w limits (a ∷ []) all e h =
    subst (λ l. Always w (action_laid limits (a ∷ [])) (GivesNothing w (routine_run w Veneer.Process l))) (same_some e)
    (routine_runs w limits Veneer.Process (a ∷ []) (subst (λ l. AllCovered l) (sym (same_some e)) h) (omega arith))
acts w limits (a ∷ b ∷ []) all e h =
    subst (λ l. Always w (action_laid limits (a ∷ b ∷ [])) (GivesNothing w (routine_run w Veneer.Process l))) (same_some e)
    (routine_runs w limits Veneer.Process (a ∷ b ∷ []) (subst (λ l. AllCovered l) (sym (same_some e)) h) (omega arith))
acts w limits (a ∷ b ∷ c ∷ []) all e h =
    subst (λ l. Always w (action_laid limits (a ∷ b ∷ c ∷ [])) (GivesNothing w (routine_run w Veneer.Process l))) (same_some e)
    (routine_runs w limits Veneer.Process (a ∷ b ∷ c ∷ []) (subst (λ l. AllCovered l) (sym (same_some e)) h) (omega arith))
acts w limits (a ∷ b ∷ c ∷ d ∷ trees) all e h = none_some e

-- `give`, `move`, `remove` and `spaces`, by their trees
give_lays : (w : World) (limits : Limits) (x : Exits) (items : List Item) (trees : List Tree) (d : Deed) →
    give_in items trees ≡ Some d → Covers d → (o : Out) →
    Has w x d o (attributes_changed limits items trees o)
give_lays w limits x items [] d e h o = none_some e
give_lays w limits x items (object ∷ trees) d e h o =
    let m = opened (attributes_in items trees) (λ attributes. Some (Give object attributes)) d e in
    let c = attributes_changed limits items (object ∷ trees) in
    by_deed w x o (c o) (Give object m.0) d m.2 h
    (λ covers. lays_code w c (Runs w x (goes_on (given w object m.0)))
    (changes w x c (given w object m.0) (given_lays w limits object covers.0 items trees m.0 m.1 covers.1)) o)

move_lays : (w : World) (limits : Limits) (x : Exits) (trees : List Tree) (d : Deed) →
    move_in trees ≡ Some d → Covers d → (o : Out) → Has w x d o (moved limits trees o)
move_lays w limits x [] d e h o = none_some e
move_lays w limits x (a ∷ []) d e h o = none_some e
move_lays w limits x (a ∷ b ∷ trees) d e h o =
    let c = moved limits (a ∷ b ∷ trees) in
    let change = with_values w (args_of w (a ∷ b ∷ [])) (write_of_two w.inserted) in
    by_deed w x o (c o) (Move a b) d e h
    (λ covers. lays_code w c (Runs w x (goes_on change))
    (changes w x c change (written_ w limits Opcode.InsertObj (write_of_two w.inserted) refl (a ∷ b ∷ []) covers)) o)

remove_lays : (w : World) (limits : Limits) (x : Exits) (trees : List Tree) (d : Deed) →
    one_in Remove trees ≡ Some d → Covers d → (o : Out) →
    Has w x d o (one_worked limits Opcode.RemoveObj trees o)
remove_lays w limits x [] d e h o = none_some e
remove_lays w limits x (a ∷ trees) d e h o =
    let c = one_worked limits Opcode.RemoveObj (a ∷ trees) in
    let change = with_values w (args_of w (a ∷ [])) (write_of_one w.removed) in
    by_deed w x o (c o) (Remove a) d e h
    (λ covers. lays_code w c (Runs w x (goes_on change))
    (changes w x c change (written_ w limits Opcode.RemoveObj (write_of_one w.removed) refl (a ∷ []) covers)) o)

spaces_lay : (w : World) (limits : Limits) (x : Exits) (trees : List Tree) (d : Deed) →
    one_in Spaces trees ≡ Some d → Covers d → (o : Out) → Has w x d o (spaced limits trees o)
spaces_lay w limits x [] d e h o = none_some e
spaces_lay w limits x (a ∷ trees) d e h o =
    let c = spaced limits (a ∷ trees) in
    let change = routine_run w Veneer.Spaces (a ∷ []) in
    by_deed w x o (c o) (Spaces a) d e h
    (λ covers. lays_code w c (Runs w x (goes_on change))
    (changes w x c change (routine_runs w limits Veneer.Spaces (a ∷ []) covers (omega arith))) o)

-- `string`: its text is put at a place, and its variable gets that place.
past_some : {A B : Type 0} {a : A} → Some a ≡ None → B
past_some e = absurd (cc e)

low_none : (limits : Limits) (b : Bool) (text : List ℕ) (o : Out) → LaysNone o (with_low_text_by limits b text o)
low_none limits true text o = none_alike o (with_low_text_by limits true text o) refl refl refl refl
low_none limits false text o = none_past o (with_low_text_by limits false text o) refl (λ e. past_some e) refl
    (names_equal o (with_low_text_by limits false text o) refl)

string_by : (w : World) (limits : Limits) (x : Exits) (text : List TextItem) (trees : List Tree) (o : Out) (d : Deed) →
    one_in (λ e. SetString e (low_string_at o)) trees ≡ Some d → Covers d → Has w x d o (string_changed limits (Some text) trees o)
string_by w limits x text [] o d e h = none_some e
string_by w limits x text (a ∷ trees) o d e h =
    let at = low_string_at o in
    let bytes = packed text [] in
    let p = text_packed o in
    let m = with_low_text limits bytes p in
    let c = string_set limits at (a ∷ trees) in
    let change = described.string_set w a at in
    let P = Runs w x (goes_on change) in
    by_deed w x o (c m) (SetString a at) d e h
    (λ covers. none_then w P o m (c m)
    (none_both o p m (none_alike o p refl refl refl refl) (low_none limits (low_fits limits bytes p.tables.low_strings) bytes p))
    (lays_code w c P (changes w x c change
    (written_ w limits Opcode.Storew (write_of_three (λ a i n. with_word ((a + 2 * i) % 65536) n)) refl
    (string_variables ∷ a ∷ Leaf (Operand.Later at) ∷ []) (tt, (covers.0, (tt, tt))))) m))

string_lays : (w : World) (limits : Limits) (x : Exits) (site : Site) (trees : List Tree) (o : Out) (d : Deed) →
    deed_of site (low_string_at o) trees Statement.String ≡ Some d → Covers d → Has w x d o (string_changed limits (last_text site) trees o)
string_lays w limits x site trees o d e h =
    let m = opened (last_text site) (λ text. one_in (λ e. SetString e (low_string_at o)) trees) d e in
    subst (λ text. Has w x d o (string_changed limits text trees o)) (sym m.1) (string_by w limits x m.0 trees o d m.2 h)

pub effects_are_laid : EffectsAreLaid
effects_are_laid w limits site trees Statement.Print o d e h has =
    let x = exits site.constructs in
    let m = opened (items_in site.set site.tokens site.items trees) (λ items. Some (Print items)) d e in
    by_deed w x o (statement_code limits site trees Statement.Print o) (Print m.0) d m.2 h
    (λ c. items_lay w limits x site.set site.tokens site.items trees m.0 m.1 c o has)
effects_are_laid w limits site trees Statement.PrintReturn o d e h has =
    let m = opened (items_in site.set site.tokens site.items trees) first_of d e in
    return_by w limits (exits site.constructs) site site.items trees m.0 d m.1 m.2 h o has
effects_are_laid w limits site trees Statement.NewLine o d e h has =
    let x = exits site.constructs in
    let c = plain limits Opcode.NewLine in
    by_deed w x o (c o) NewLine d e h
    (λ covers. lays_code w c (Runs w x (effect w NewLine)) (changes w x c (λ s. Some (tells LineEnd s)) (line_ended w limits)) o)
effects_are_laid w limits site trees Statement.Give o d e h has = give_lays w limits (exits site.constructs) site.items trees d e h o
effects_are_laid w limits site trees Statement.Move o d e h has = move_lays w limits (exits site.constructs) trees d e h o
effects_are_laid w limits site trees Statement.Remove o d e h has = remove_lays w limits (exits site.constructs) trees d e h o
effects_are_laid w limits site trees Statement.Spaces o d e h has = spaces_lay w limits (exits site.constructs) trees d e h o
effects_are_laid w limits site trees Statement.String o d e h has = string_lays w limits (exits site.constructs) site trees o d e h
effects_are_laid w limits site trees Statement.Style o d e h has =
    let x = exits site.constructs in
    let style = style_in styles (name_behind site) in
    by_deed w x o (styled_by limits style o) (SetStyle (name_behind site)) d e h
    (λ covers. lays_code w (styled_by limits style) (Runs w x (effect w (SetStyle (name_behind site)))) (style_set w limits x style) o)
effects_are_laid w limits site trees Statement.Action o d e h has =
    let x = exits site.constructs in
    let m = opened (action_in trees) (λ values. Some (DoAction values)) d e in
    let c = action_laid limits trees in
    by_deed w x o (c o) (DoAction m.0) d m.2 h
    (λ covers. lays_code w c (Runs w x (effect w (DoAction m.0)))
    (changes w x c (routine_run w Veneer.Process m.0) (acts w limits trees m.0 m.1 covers)) o)
effects_are_laid w limits site trees Statement.ActionReturn o d e h has =
    let x = exits site.constructs in
    let m = opened (action_in trees) (λ values. Some (DoActionReturn values)) d e in
    let c = statement_code limits site trees Statement.ActionReturn in
    by_deed w x o (c o) (DoActionReturn m.0) d m.2 h
    (λ covers. lays_code w c (Runs w x (effect w (DoActionReturn m.0)))
    (so (change_returns w x (routine_run w Veneer.Process m.0))
    (then_ (acts w limits trees m.0 m.1 covers) (fixed_runs w limits x).0)) o)
effects_are_laid w limits site trees _ o d e h has = none_some e
