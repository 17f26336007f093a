-- The unit at hand: its tokens, and the parts that the actions of the grammar gather of them.
use Rattle.std.specs.Prelude.{ℕ, ◌+◌, ◌-◌, ◌==◌, List, [], ◌∷◌, ◌++◌, length, drop, min, slice_get, take, nat_lt, Bool, true, false, ◌&&◌}
use Rattle.std.specs.Prelude.{◌||◌, if◌then◌else◌, not, Option, Some, None, option_map, unwrap_or}
use Rattle.inf_scanner.specs.{declared.tokens.Mark.Mark, declared.tokens.Place.Place, declared.tokens.TokenKind.TokenKind}
use Rattle.inf_gathering.specs.declared.gathering.Leaf.{Leaf}
use Rattle.inf_gathering.specs.Gatherings.{Gathering, cut, extent, nothing_gathered, numbers, with_bracket, with_call, with_closed_bracket}
use Rattle.inf_gathering.specs.Gatherings.{with_comma}
use Rattle.inf_gathering.specs.Gatherings.{with_leaf, with_list, with_part, with_prefix, with_rule, with_suffix, with_test, with_two}
use Rattle.inf_expressions.specs.{Findings.least_of_both, declared.findings.Finding.Finding}
use Rattle.inf_names.specs.{Locals.Headed, Locals.no_locals, Locals.with_local, Spellings.Name}
use Rattle.inf_opcode.specs.{Opcodes.row_of, declared.opcodes.Opcode.Opcode}
use Rattle.inf_syntax.specs.{declared.actions.Action.Action, declared.words.Keyword.Keyword}
use Rattle.inf_unit.specs.{Items.code_behind, Items.is_own, Items.rule_of, LongLines.LongLine, LongLines.no_tokens, Opcodes.opcode_of}
use Rattle.inf_unit.specs.{Opcodes.takes_text, Roles.role_of, declared.items.Item.Item, declared.items.PrintRule.PrintRule}
use Rattle.inf_unit.specs.{declared.roles.Note.Note, declared.roles.Role.Role, declared.steps.GatherStep.GatherStep}
use Rattle.inf_unit.specs.Tokens.{SourceToken, is_mark, keyword, name_of}
use Rattle.inf_unit.specs.Crowds.{Crowd, crowd_or, is_telling, with_value, without_value}

-- The unit at hand: its tokens so far, before which the first of those between the unit before and its beginning stands, where
-- there are such; the place among them where it begins; the expressions gathered so far; the locals that it names, where it is the
-- header of a routine; its items beside its expressions, in order, and the least number of bytes of their code; the place among its tokens where its outermost expression
-- begins, if one is open, and whether that surely is one; whether the unit has ended, but for its last token; the number of
-- brackets and braces of its piece that are open; the number of its tokens, where it is whole and waits for the token that follows
-- it; the least finding of operands that are not kept; its tokens, where it is a line of grammar or the header of a verb that has too
-- many; and its values, where it prints or gives too many.
pub record Unit : Type 0 where
  pub tokens : List SourceToken
  pub begun : ℕ
  pub gathering : Gathering
  pub headed : Headed
  pub items : List Item
  pub code : ℕ
  pub outer : Option ℕ
  pub is_sure : Bool
  pub is_over : Bool
  pub depth : ℕ
  pub held : Option ℕ
  pub passed : Option Finding
  pub long : Option LongLine
  pub crowd : Option Crowd

-- Unit at the front of a piece.
abbrev pub no_unit : Unit
no_unit = record {
  tokens = [];
  begun = 0;
  gathering = nothing_gathered;
  headed = no_locals;
  items = [];
  code = 0;
  outer = None;
  is_sure = false;
  is_over = false;
  depth = 0;
  held = None;
  passed = None;
  long = None;
  crowd = None;
}

-- The next token is the first of a unit. Of those before it the first is kept.
abbrev pub begun : Unit → Unit
begun u = record no_unit { tokens = take 1 u.tokens; begun = length (take 1 u.tokens); depth = u.depth }

-- All that was gathered is forgotten.
abbrev pub forgotten : Unit → Unit
forgotten u = record no_unit { tokens = u.tokens; begun = u.begun; depth = u.depth }

-- The unit has ended, and its last token is still to come, or not. Where it waited, the first of the tokens behind it stays.
abbrev pub behind_held : Option ℕ → List SourceToken → List SourceToken
behind_held None tokens = []
behind_held (Some count) tokens = take 1 (drop count tokens)

abbrev pub over : Bool → Unit → Unit
over has_last u = record no_unit { tokens = behind_held u.held u.tokens; is_over = has_last; depth = u.depth }

-- Definitions of tokens

abbrev pub opened_more : Mark → ℕ → ℕ
opened_more Mark.OpenParenthesis depth = min (depth + 1) 4294967295
opened_more Mark.OpenBrace depth = min (depth + 1) 4294967295
opened_more Mark.CloseParenthesis depth = depth - 1
opened_more Mark.CloseBrace depth = depth - 1
opened_more _ depth = depth

abbrev pub depth_behind : TokenKind → ℕ → ℕ
depth_behind (TokenKind.Mark m) depth = opened_more m depth
depth_behind _ depth = depth

-- A token is taken.
abbrev pub taken : SourceToken → Unit → Unit
taken t u =
    if u.is_over then record u { is_over = false }
    else record u { tokens = u.tokens ++ t ∷ []; depth = depth_behind t.kind u.depth }

-- Kind and place of the token at a place of the unit, where there is one.
abbrev pub kind_at : List SourceToken → ℕ → Option TokenKind
kind_at tokens at = option_map (λ (t : SourceToken). t.kind) (slice_get tokens at)

abbrev pub place_at : List SourceToken → ℕ → Option Place
place_at tokens at = option_map (λ (t : SourceToken). t.place) (slice_get tokens at)

-- Name at a place of the unit, if the token there is one.
abbrev pub name_by : Option SourceToken → Option Name
name_by None = None
name_by (Some t) = name_of t

abbrev pub name_at : List SourceToken → ℕ → Option Name
name_at tokens at = name_by (slice_get tokens at)

-- Bytes of a name, and of the name at a place of the unit; none where there is no name.
abbrev pub bytes_of : Option Name → List ℕ
bytes_of None = []
bytes_of (Some n) = n.bytes

abbrev pub bytes_at : List SourceToken → ℕ → List ℕ
bytes_at tokens at = bytes_of (name_at tokens at)

-- Place of the first token; where there is none yet, that of the next.
abbrev pub first_place : List SourceToken → Place → Place
first_place tokens next = unwrap_or (place_at tokens 0) next

-- Place of the first token of the unit itself; where there is none yet, that of the next.
abbrev pub own_place : Unit → Place → Place
own_place u next = unwrap_or (place_at u.tokens u.begun) next

-- Place of the last token, where there is one, and else another place.
abbrev pub last_place : List SourceToken → Place → Place
last_place tokens other = unwrap_or (place_at tokens (length tokens - 1)) other

-- Bytes of the first text among the tokens.
abbrev pub quoted_by : TokenKind → List ℕ → List ℕ → List ℕ
quoted_by TokenKind.Text bytes others = bytes
quoted_by _ bytes others = others

-- those of a token, if it is a text, and else others
abbrev pub text_by : Option SourceToken → List ℕ → List ℕ
text_by None others = others
text_by (Some t) others = quoted_by t.kind t.bytes others

abbrev pub quoted_in : List SourceToken → List ℕ
quoted_in [] = []
quoted_in (t ∷ tokens) = quoted_by t.kind t.bytes (quoted_in tokens)

-- Tells whether a token is a mark, if there is one.
abbrev pub is_some_mark : Mark → Option TokenKind → Bool
is_some_mark m None = false
is_some_mark m (Some k) = is_mark m k

-- Order of the name that a directive declares: behind its word, before which a `#` may stand.
abbrev pub name_order : List SourceToken → ℕ
name_order tokens = if is_some_mark Mark.Hash (kind_at tokens 0) then 2 else 1

-- Word of the grammar at a place of the unit, if the token there is one.
abbrev pub keyword_by : Option SourceToken → Option Keyword
keyword_by None = None
keyword_by (Some t) = keyword t

abbrev pub keyword_at : List SourceToken → ℕ → Option Keyword
keyword_at tokens at = keyword_by (slice_get tokens at)

-- Word of a directive, before which a `#` may stand.
abbrev pub directive_word : List SourceToken → Option Keyword
directive_word tokens = keyword_at tokens (name_order tokens - 1)

-- Names among the tokens, in order.
abbrev pub with_name : Option Name → List Name → List Name
with_name None names = names
with_name (Some n) names = names ++ n ∷ []

abbrev pub names_from : List SourceToken → List Name → List Name
names_from [] names = names
names_from (t ∷ tokens) names = names_from tokens (with_name (name_of t) names)

abbrev pub names_in : List SourceToken → List Name
names_in tokens = names_from tokens []

-- Place of the first token by which the outermost expression is too long, if it surely is one and has more than `most` tokens.
abbrev pub long_from : List SourceToken → ℕ → ℕ → Bool → Option Place
long_from tokens most outer is_sure = if is_sure && nat_lt most (length tokens - outer) then place_at tokens (outer + most) else None

abbrev pub long_by : List SourceToken → ℕ → Bool → Option ℕ → Option Place
long_by tokens most is_sure None = None
long_by tokens most is_sure (Some outer) = long_from tokens most outer is_sure

abbrev pub long_at : ℕ → Unit → Option Place
long_at most u = long_by u.tokens most u.is_sure u.outer

-- Number of tokens that the outermost expression has so far; 0 where it may be no expression.
abbrev pub outer_count : List SourceToken → Bool → Option ℕ → ℕ
outer_count tokens is_sure None = 0
outer_count tokens is_sure (Some outer) = if is_sure then length tokens - outer else 0

abbrev pub outer_tokens : Unit → ℕ
outer_tokens u = outer_count u.tokens u.is_sure u.outer

-- Definitions of actions

-- Place of the last token among those of the unit.
abbrev pub last_leaf : Unit → ℕ
last_leaf u = length u.tokens - 1

-- Order of the token at a place of its unit. A unit has fewer tokens than there are orders, so no two tokens have one order.
unfoldable pub order : ℕ → ℕ
order at = min at 4294967295

-- Place behind another one.
unfoldable pub next_place : ℕ → ℕ
next_place at = min (at + 1) 18446744073709551615

-- Leaf that a token at a place of its unit is.
abbrev pub leaf_of : ℕ → TokenKind → Leaf
leaf_of at (TokenKind.Number n) = Leaf.Number n
leaf_of at (TokenKind.Char c) = Leaf.Char c
leaf_of at (TokenKind.Word w) = Leaf.Word w
leaf_of at TokenKind.Text = Leaf.Text at
leaf_of at _ = Leaf.Name at

-- Tells whether the unit is an assembly line.
abbrev pub is_assembly : Unit → Bool
is_assembly u = is_some_mark Mark.At (kind_at u.tokens u.begun)

-- Tells whether the token at a place is an operand of an assembly line by itself, if it is a name: the operand begins with it, and
-- nothing stands behind a name.
abbrev pub is_first : ℕ → Option ℕ → Bool
is_first at None = false
is_first at (Some outer) = outer == at

abbrev pub is_alone : ℕ → Unit → Bool
is_alone at u = is_first at u.outer && is_assembly u

abbrev pub told_leaf : Bool → Leaf → Leaf
told_leaf true (Leaf.Name at) = Leaf.Alone at
told_leaf _ l = l

abbrev pub with_last : ℕ → Bool → Option TokenKind → Gathering → Gathering
with_last at is_alone None g = g
with_last at is_alone (Some k) g = with_leaf (order at) (order at) (told_leaf is_alone (leaf_of at k)) g

abbrev pub leaf_gathered : Unit → Unit
leaf_gathered u = let at = last_leaf u in record u { gathering = with_last at (is_alone at u) (kind_at u.tokens at) u.gathering }

-- An action, and a system constant, is named by its token. It begins at the sign before that, if one is there.
abbrev pub is_sign : Option TokenKind → Bool
is_sign (Some (TokenKind.Mark Mark.DoubleHash)) = true
is_sign (Some (TokenKind.Mark Mark.Hash)) = true
is_sign _ = false

abbrev pub marked_from : List SourceToken → ℕ → ℕ
marked_from tokens at = if is_sign (kind_at tokens (at - 1)) then at - 1 else at

abbrev pub action_gathered : Unit → Unit
action_gathered u =
    let at = last_leaf u in
    record u { gathering = with_leaf (order (marked_from u.tokens at)) (order at) (Leaf.Action at) u.gathering }

abbrev pub system_gathered : Unit → Unit
system_gathered u =
    let at = last_leaf u in
    record u { gathering = with_leaf (order (marked_from u.tokens at)) (order at) (Leaf.System at) u.gathering }

-- Gathering of a step that has to do with an operator, a list or a bracket, behind some tokens.
abbrev pub gathered : GatherStep → List SourceToken → Gathering → Gathering
gathered GatherStep.Leaf tokens g = g
gathered GatherStep.Action tokens g = g
gathered GatherStep.System tokens g = g
gathered (GatherStep.Prefix op) tokens g = with_prefix op g
gathered (GatherStep.Suffix op) tokens g = with_suffix op g
gathered (GatherStep.Two op) tokens g = with_two op g
gathered GatherStep.Comma tokens g = with_comma g
gathered GatherStep.List tokens g = with_list g
gathered GatherStep.Part tokens g = with_part g
gathered GatherStep.Call tokens g = with_call g
gathered (GatherStep.Test op) tokens g = with_test op g
gathered GatherStep.Bracket tokens g = with_bracket (order (length tokens - 1)) g
gathered GatherStep.Bracketed tokens g = with_closed_bracket g

abbrev pub stepped : GatherStep → Unit → Unit
stepped GatherStep.Leaf u = leaf_gathered u
stepped GatherStep.Action u = action_gathered u
stepped GatherStep.System u = system_gathered u
stepped s u = record u { gathering = gathered s u.tokens u.gathering }

-- One item more beside the expressions.
abbrev pub with_item : Item → Unit → Unit
with_item i u = record u { items = u.items ++ i ∷ []; code = code_behind i u.code }

-- One item more is printed, where an outermost expression has ended.
abbrev pub printed : Item → Unit → Unit
printed i u = record u { items = u.items ++ i ∷ []; code = code_behind i u.code; outer = None }

-- The name in the bracket that was closed last is a print rule: one of the language is no expression.
abbrev pub ruled_by : PrintRule → Unit → Unit
ruled_by r u = record u {
  gathering = with_rule (is_own r) u.gathering;
  items = u.items ++ Item.Ruled r ∷ [];
  code = code_behind (Item.Ruled r) u.code;
}

abbrev pub ruled : Unit → Unit
ruled u = ruled_by (rule_of (bytes_at u.tokens (length u.tokens - 2))) u

-- A text behind an opcode and before the semicolon is an operand, unless the opcode takes a text of its own.
abbrev pub opcode_text : Unit → Unit
opcode_text u = if takes_text (bytes_at u.tokens (next_place u.begun)) then with_item (Item.Text (last_leaf u)) u else leaf_gathered u

-- A text that is printed stands behind a comma, and neither is kept.
abbrev pub text_passed : Unit → Unit
text_passed u = record u { tokens = take (length u.tokens - 2) u.tokens; outer = None }

-- The last token names a local: it is kept among the locals, and not among the tokens.
abbrev pub headed_by : Option Name → Headed → Headed
headed_by None h = h
headed_by (Some n) h = with_local n h

abbrev pub headed_more : Unit → Unit
headed_more u = record u { headed = headed_by (name_at u.tokens (last_leaf u)) u.headed; tokens = take (last_leaf u) u.tokens }

-- The last token is not kept.
abbrev pub last_passed : Unit → Unit
last_passed u = record u { tokens = take (last_leaf u) u.tokens }

-- The last token is a semicolon beside the entries of an array. Right behind another one it is not kept.
abbrev pub is_again : ℕ → List SourceToken → Bool
is_again at tokens = is_some_mark Mark.Semicolon (kind_at tokens (at - 1)) && nat_lt 0 at

abbrev pub semicolon_taken : Unit → Unit
semicolon_taken u = if is_again (last_leaf u) u.tokens then last_passed u else u

-- Tells whether the unit is an assembly line with more than 64 operands. An instruction has eight, so the line is wrong, whatever they are:
-- as many numbers stand for them as are too many, and the least finding of them is kept.
abbrev pub is_full : Unit → Bool
is_full u = nat_lt 64 (length u.gathering.firsts) && is_assembly u

abbrev pub operands_passed : Option Finding → Unit → Unit
operands_passed f u = record u {
  tokens = take (next_place (next_place u.begun)) u.tokens;
  gathering = numbers 9;
  outer = None;
  passed = least_of_both u.passed f;
}

-- A token of a line of grammar, or of the header of a verb, that has too many ends. The tokens so far are kept, of which one is wrong or
-- none; a further one is kept where it is wrong, or new, unless one before it is wrong.
abbrev pub sifted_by : Option LongLine → Bool → Bool → Unit → Unit
sifted_by None is_bad is_new u = record u { long = Some (no_tokens (length u.tokens) is_bad) }
sifted_by (Some l) is_bad is_new u =
    if (is_bad || is_new) && not l.is_bad then record u { long = Some (record l { count = length u.tokens; is_bad = is_bad }) }
    else record u { tokens = take l.count u.tokens }

abbrev pub sifted : Bool → Bool → Unit → Unit
sifted is_bad is_new u = sifted_by u.long is_bad is_new u

-- Values of a unit that has too many are sifted from the next one on: all that the unit has so far is the first of them.
abbrev pub crowd_begun : Unit → Unit
crowd_begun u = record u { crowd = Some (crowd_or u.crowd) }

-- The value at hand ends, about which a finding is the least. It is kept where it tells something.
abbrev pub value_kept : Option Finding → Crowd → Unit → Unit
value_kept f c u = record u { crowd = Some (with_value (length u.tokens) (length u.items) u.code (extent u.gathering) f c) }

abbrev pub value_passed : Crowd → Unit → Unit
value_passed c u = record u {
  tokens = take c.line.count u.tokens;
  items = take c.items u.items;
  code = c.code;
  gathering = cut c.extent u.gathering;
  crowd = Some (without_value c);
}

abbrev pub value_sifted_by : Option Crowd → Option Finding → Unit → Unit
value_sifted_by None f u = u
value_sifted_by (Some c) f u = if is_telling f c then value_kept f c u else value_passed c u

abbrev pub value_sifted : Option Finding → Unit → Unit
value_sifted f u = value_sifted_by u.crowd f u

-- Unit after a note.
abbrev pub noted : Note → Unit → Unit
noted Note.Begin u = begun u
noted Note.Local u = headed_more u
noted Note.Arrow u = u
noted Note.Semicolon u = semicolon_taken u
noted (Note.Outer is_sure) u = record u { outer = Some (length u.tokens); is_sure = is_sure }
noted Note.OuterWord u = record u { outer = Some (last_leaf u); is_sure = true }
noted Note.OuterSure u = record u { is_sure = true }
noted Note.OuterEnd u = record u { outer = None }
noted Note.Hold u = record u { held = Some (length u.tokens); outer = None }
noted Note.PrintText u = printed (Item.Text (last_leaf u)) u
noted Note.PrintValue u = printed Item.Value u
noted Note.PrintRuled u = record u { outer = None }
noted Note.Rule u = ruled u
noted Note.Set u = with_item Item.Set u
noted Note.Clear u = with_item Item.Clear u
noted Note.Default u = with_item Item.Default u
noted Note.AsmText u = opcode_text u
noted Note.Store u = with_item (Item.Store (last_leaf u)) u
noted (Note.Branch sense) u = with_item (Item.Branch (last_leaf u) sense) u
noted Note.LineToken u = u
noted Note.VerbWord u = u

-- Unit after an action has gathered or noted something; an action that ends a unit, or has to do with the statements around it,
-- does neither.
abbrev pub played : Role → Unit → Unit
played (Role.Gather s) u = stepped s u
played (Role.Note n) u = noted n u
played (Role.End e) u = u
played (Role.Open o) u = u
played Role.Join u = u
played Role.Close u = u
played Role.Deeper u = u
played Role.MaybeDeeper u = u
played Role.Nothing u = u

abbrev pub acted : Action → Unit → Unit
acted a u = played (role_of a) u

-- Definitions of whole units

-- Opcode of an assembly line, by the name behind its first token.
abbrev pub line_opcode : Unit → Option Opcode
line_opcode u = opcode_of (bytes_at u.tokens (next_place u.begun))

-- Place of the name of the label to which an assembly line jumps, by its opcode and its operands; the name is then no expression.
abbrev pub jump_label : List Leaf → Option ℕ
jump_label ((Leaf.Alone at) ∷ []) = Some at
jump_label _ = None

abbrev pub jump_by : Option Opcode → List Leaf → Option ℕ
jump_by None leaves = None
jump_by (Some op) leaves = if (row_of op).jumps then jump_label leaves else None

abbrev pub jump_of : Unit → Option ℕ
jump_of u = if is_assembly u then jump_by (line_opcode u) u.gathering.leaves else None

abbrev pub prepared_by : Option ℕ → Unit → Unit
prepared_by None u = u
prepared_by (Some at) u =
    record u { gathering = nothing_gathered; items = u.items ++ Item.Jump at ∷ []; code = code_behind (Item.Jump at) u.code }

abbrev pub prepared : Unit → Unit
prepared u = prepared_by (jump_of u) u
