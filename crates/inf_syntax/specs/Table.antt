-- The rows of the rules, rule by rule. Made from docs/grammar.txt.
use Rattle.std.specs.Prelude.{List, [], ◌∷◌}
use Rattle.inf_machine.specs.Grammar.{Row}
use Rattle.inf_syntax.specs.{Rows.row, Rows.row_unless, declared.actions.Action.Action}
use Rattle.inf_syntax.specs.declared.parts.names.TheConstants as Part
use Part.{ACT, ACT_1, ACT_2, ACT_3, ADDRESS_OPERATOR, ADDRESS_TAIL, AFTER_PRIM, AFTER_UNARY, ARRAY_ENTRY, ARRAY_OPERATOR, ARRAY_TAIL, ARROW}
use Part.{ASSEMBLY, ASSEMBLY_1, ASSEMBLY_2, ASSEMBLY_3, ASSIGN, ASSIGN_MARK, ASSIGN_TAIL, ASSIGN_TAIL_1, AT, ATTRIBUTE, ATTRIBUTE_1}
use Part.{BARENAME, BARE_PRIM, BEGINNAME, BIT, BIT_AND, BIT_NOT, BIT_OR, BODY, BODYNAME, BRACKETED, BRACKET_ITEM, BRACKET_NAME}
use Part.{BRACKET_NAME_1, BRACKET_NAME_2, BRANCH, BRANCH_1, CALL, CALL_1, CALL_2, CASENAME, CASE_END, CASE_VALUE, CASE_VALUE_1, CHAR}
use Part.{CLOSE_BRACE, CLOSE_BRACKET, CLOSE_PARENTHESIS, COLON, COMMA, DECREMENT, DIRECTIVE, DIRECTIVE_1, DIRECTIVE_10, DIRECTIVE_11}
use Part.{DIRECTIVE_12, DIRECTIVE_13, DIRECTIVE_2, DIRECTIVE_3, DIRECTIVE_4, DIRECTIVE_5, DIRECTIVE_6, DIRECTIVE_7, DIRECTIVE_8}
use Part.{DIRECTIVE_9, DIVIDE, DOT, DOT_AND, DOT_HASH, DOUBLE_GREATER, DOUBLE_HASH, DOUBLE_LESS, DO_ACTION, DO_AND, DO_ARROW, DO_ASM_TEXT}
use Part.{DO_ASSIGN, DO_BEGIN, DO_BIT_AND, DO_BIT_NOT, DO_BIT_OR, DO_BRACKET, DO_BRACKETED, DO_BRANCH, DO_BRANCH_NOT, DO_BYTE_ENTRY}
use Part.{DO_CALL, DO_CHAR, DO_CLEAR, DO_CLOSE, DO_COMMA, DO_COUNT, DO_DECREMENT_AFTER, DO_DECREMENT_BEFORE, DO_DEEPER, DO_DEFAULT}
use Part.{DO_DIVIDE, DO_ELSE, DO_END_ALONE, DO_END_ATTRIBUTE, DO_END_BODY, DO_END_CASE, DO_END_CLASS, DO_END_DIRECTIVE, DO_END_EMBEDDED}
use Part.{DO_END_ENTRY, DO_END_FOR_START, DO_END_FOR_STEP, DO_END_FOR_TEST, DO_END_HEADER, DO_END_IF, DO_END_LINE, DO_END_LOCALS}
use Part.{DO_END_OBJECTLOOP, DO_END_PROPERTY, DO_END_ROUTINE, DO_END_STATEMENT, DO_END_SWITCH, DO_END_TEXT, DO_END_UNTIL, DO_END_VALUE}
use Part.{DO_END_WHILE, DO_EQUAL, DO_FOR_TOP, DO_GREATER, DO_GREATER_OR_EQUAL, DO_HAS, DO_HAS_NOT, DO_HOLD, DO_IN, DO_INCREMENT_AFTER}
use Part.{DO_INCREMENT_BEFORE, DO_LESS, DO_LESS_OR_EQUAL, DO_LOCAL, DO_LOOP, DO_MAYBE_DEEPER, DO_MEMBER, DO_MEMBER_ADDRESS}
use Part.{DO_MEMBER_LENGTH, DO_MINUS, DO_NAME, DO_NEGATE, DO_NOT, DO_NOT_IN, DO_NUMBER, DO_OF_CLASS, DO_OPEN_DO, DO_OPEN_FOR, DO_OPEN_IF}
use Part.{DO_OPEN_OBJECTLOOP, DO_OPEN_SWITCH, DO_OPEN_WHILE, DO_OR, DO_OUTER, DO_OUTER_END, DO_OUTER_MAYBE, DO_OUTER_SURE, DO_OUTER_WORD}
use Part.{DO_PART, DO_PLUS, DO_PRINT_RULE, DO_PRINT_TEXT, DO_PRINT_VALUE, DO_PROVIDES, DO_REMAINDER, DO_REST, DO_ROUTINE, DO_RULE}
use Part.{DO_SEMICOLON, DO_SET, DO_STORE, DO_SYSTEM, DO_TEXT, DO_TIMES, DO_TO, DO_TOKEN, DO_UNEQUAL, DO_UNTIL, DO_VERB_WORD, DO_WORD}
use Part.{DO_WORD_ENTRY, ELSE_PART, END, ENTRY, EQUAL, EXPRESSION, EXPRESSION_TAIL, FILE, FIRST_CASE, FIRST_CASE_1, FIRST_CASE_2}
use Part.{FIRST_CASE_3, FIRST_CASE_4, FIRST_LISTED, FOR_REST, FOR_REST_1, FOR_REST_2, FOR_REST_3, GIVE_REST, GIVE_REST_1, GREATER}
use Part.{GREATER_OR_EQUAL, HASH, HELD, IF_REST, INC, INCREMENT, INITIAL, INITIAL_1, INNER_OPERATOR, ITEM, ITEM_1, ITEM_2, JUMP_REST, LESS}
use Part.{LESS_OR_EQUAL, LINE, LINE_1, LINE_2, LINE_3, LINE_4, LISTED_ENTRIES, LOGIC, LOGICAL_AND, LOGICAL_NOT, LOGICAL_OR, LOGIC_OPERATOR}
use Part.{LOGIC_TAIL, LONG_ARROW, MARK_STATEMENT, MARK_STATEMENT_1, MEMBER_OPERATOR, MINUS, MINUS_FOLLOWING, MINUS_MORE, MINUS_MORE_1}
use Part.{MORE_LISTED, MOVE_REST, NAME, NEG, NEGATED, NOTADDITIVE, NOTALIAS, NOTDEFAULT, NOTTO, NOT_EQUAL, NUMBER, OBJECT, OBJECTLOOP_REST}
use Part.{OBJECT_1, OBJECT_2, OBJECT_3, OBJECT_4, OFCLASS, OF_EXPRESSION, OPEN_BRACE, OPEN_BRACKET, OPEN_PARENTHESIS, OPERAND, OPERANDS}
use Part.{OPERANDS_1, OPERANDS_2, OPERATOR, OTHER_ASSIGN, OTHER_OPERATOR, OTHER_PRIM, OUTER_FOLLOWING, OUTER_FOLLOWING_1, OUTER_MORE}
use Part.{OUTER_OPERATOR, PART, PART_1, PART_2, PIECE, PLAIN_ENTRIES, PLAIN_ENTRIES_1, PLAIN_ENTRIES_2, PLAIN_PRIM, PLAIN_WORD, PLUS, POST}
use Part.{POST_TAIL, PREFIXED, PRIM, PRINT_REST, PRINT_REST_1, PROPERTIES, PROPERTIES_1, PROPERTY, PROPERTY_1, PROPERTY_2, QUESTION, RANGE}
use Part.{REMAINDER, RESERVED, RETURN_REST, RETURN_REST_1, RULED, SEMICOLON, STATEMENT, STATEMENT_1, STATEMENT_2, STATEMENT_3, STATEMENT_4}
use Part.{STATEMENT_5, STATEMENT_END, STEP_OPERATOR, STEP_PREFIX, STEP_TAIL, STORE_OR_BRANCH, STORE_OR_BRANCH_1, STRING_REST, STYLE_REST}
use Part.{SUM, SUM_OPERATOR, SUM_TAIL, SWITCH_FOLLOWING, SWITCH_ITEM, SWITCH_ITEM_1, SWITCH_ITEM_10, SWITCH_ITEM_11, SWITCH_ITEM_12}
use Part.{SWITCH_ITEM_13, SWITCH_ITEM_14, SWITCH_ITEM_15, SWITCH_ITEM_16, SWITCH_ITEM_17, SWITCH_ITEM_18, SWITCH_ITEM_19, SWITCH_ITEM_2}
use Part.{SWITCH_ITEM_20, SWITCH_ITEM_21, SWITCH_ITEM_22, SWITCH_ITEM_23, SWITCH_ITEM_24, SWITCH_ITEM_25, SWITCH_ITEM_26, SWITCH_ITEM_3}
use Part.{SWITCH_ITEM_4, SWITCH_ITEM_5, SWITCH_ITEM_6, SWITCH_ITEM_7, SWITCH_ITEM_8, SWITCH_ITEM_9, SWITCH_MORE, SWITCH_NEXT, SWITCH_NEXT_1}
use Part.{SWITCH_NEXT_2, SWITCH_REST, SWITCH_REST_1, SWITCH_REST_2, SWITCH_WORD, SWITCH_WORD_1, TERM, TERM_OPERATOR, TERM_TAIL, TEST}
use Part.{TESTED, TESTED_1, TEST_TAIL, TEST_TAIL_1, TEXT, TEXT_MORE, TEXT_STATEMENT, TEXT_STATEMENT_1, TIMES, TOP_FOLLOWING}
use Part.{TOP_FOLLOWING_1, TOP_ITEM, TOP_ITEM_1, TOP_ITEM_10, TOP_ITEM_11, TOP_ITEM_12, TOP_ITEM_13, TOP_ITEM_14, TOP_ITEM_15, TOP_ITEM_16}
use Part.{TOP_ITEM_17, TOP_ITEM_18, TOP_ITEM_19, TOP_ITEM_2, TOP_ITEM_20, TOP_ITEM_21, TOP_ITEM_3, TOP_ITEM_4, TOP_ITEM_5, TOP_ITEM_6}
use Part.{TOP_ITEM_7, TOP_ITEM_8, TOP_ITEM_9, TOP_MORE, TOP_NEXT, TOP_RANGE, TOP_VALUES, TOP_VALUES_1, TOP_VALUES_2, TOP_WORD, TOP_WORD_1}
use Part.{VALUE, VALUES, VALUES_1, VALUE_1, VALUE_2, VALUE_3, WHILE_REST, WHOLE_DIRECTIVE, WHOLE_DIRECTIVE_1, WHOLE_DIRECTIVE_2}
use Part.{WHOLE_DIRECTIVE_3, WHOLE_DIRECTIVE_4, WHOLE_DIRECTIVE_5, WHOLE_DIRECTIVE_6, WORD, WORD_ABBREVIATE, WORD_ADDITIVE, WORD_ALIAS}
use Part.{WORD_ARRAY, WORD_ATTRIBUTE, WORD_BREAK, WORD_CLASS, WORD_CONSTANT, WORD_CONTINUE, WORD_DEFAULT, WORD_DO, WORD_ELSE, WORD_END}
use Part.{WORD_ERROR, WORD_EXTEND, WORD_FAKE_ACTION, WORD_FATALERROR, WORD_FIRST, WORD_FOR, WORD_GIVE, WORD_GLOBAL, WORD_HAS, WORD_HASNT}
use Part.{WORD_IF, WORD_IFFALSE, WORD_IFTRUE, WORD_IN, WORD_INCLUDE, WORD_JUMP, WORD_LAST, WORD_LOWSTRING, WORD_MESSAGE, WORD_META}
use Part.{WORD_MOVE, WORD_NEARBY, WORD_NEW_LINE, WORD_NOTIN, WORD_OBJECT, WORD_OBJECTLOOP, WORD_OFCLASS, WORD_OR, WORD_PRINT}
use Part.{WORD_PRINT_RET, WORD_PROPERTY, WORD_PROVIDES, WORD_QUIT, WORD_RELEASE, WORD_REMOVE, WORD_REPLACE, WORD_RETURN, WORD_REVERSE}
use Part.{WORD_RFALSE, WORD_RTRUE, WORD_SERIAL, WORD_SPACES, WORD_STRING, WORD_STUB, WORD_STYLE, WORD_SWITCH, WORD_SWITCHES}
use Part.{WORD_SYSTEM_FILE, WORD_TABLE, WORD_TO, WORD_UNTIL, WORD_VERB, WORD_WARNING, WORD_WHILE, WORD_WITH}

abbrev pub rules_1 : List (List (Row Action))
rules_1 =
    (row (PIECE ∷ FILE ∷ []) ∷ row [] ∷ [])  -- file
    ∷ (row (SEMICOLON ∷ []) ∷ row (HASH ∷ DIRECTIVE ∷ []) ∷ row (DIRECTIVE ∷ []) ∷ [])  -- piece
    ∷ (row (DO_ROUTINE ∷ OPEN_BRACKET ∷ NAME ∷ DIRECTIVE_1 ∷ DO_END_LOCALS ∷ SEMICOLON ∷ DIRECTIVE_2 ∷ DO_END_ROUTINE ∷ CLOSE_BRACKET ∷  -- directive
    SEMICOLON ∷ []) ∷ row (WORD_ABBREVIATE ∷ DO_END_HEADER ∷ TEXT ∷ DO_END_TEXT ∷ DIRECTIVE_3 ∷ SEMICOLON ∷ []) ∷
    row (WORD_ARRAY ∷ NAME ∷ DIRECTIVE_4 ∷ DO_END_HEADER ∷ DIRECTIVE_5 ∷ SEMICOLON ∷ []) ∷
    row (WORD_CLASS ∷ BODYNAME ∷ DO_END_HEADER ∷ BODY ∷ DO_END_BODY ∷ SEMICOLON ∷ []) ∷
    row (WORD_OBJECT ∷ DIRECTIVE_6 ∷ OBJECT ∷ []) ∷ row (WORD_NEARBY ∷ OBJECT ∷ []) ∷ row (OFCLASS ∷ DIRECTIVE_7 ∷ OBJECT ∷ []) ∷
    row (WORD_EXTEND ∷ WORD ∷ DIRECTIVE_8 ∷ DO_END_HEADER ∷ DIRECTIVE_9 ∷ SEMICOLON ∷ []) ∷
    row (WORD_VERB ∷ DIRECTIVE_10 ∷ WORD ∷ DIRECTIVE_11 ∷ DIRECTIVE_12 ∷ SEMICOLON ∷ []) ∷
    row (WHOLE_DIRECTIVE ∷ DO_END_DIRECTIVE ∷ SEMICOLON ∷ []) ∷ [])
    ∷ (row (NAME ∷ DO_LOCAL ∷ DIRECTIVE_1 ∷ []) ∷ row [] ∷ [])  -- directive_1
    ∷ (row (TOP_ITEM ∷ DIRECTIVE_2 ∷ []) ∷ row [] ∷ [])  -- directive_2
    ∷ (row (TEXT ∷ DO_END_TEXT ∷ DIRECTIVE_3 ∷ []) ∷ row [] ∷ [])  -- directive_3
    ∷ (row (ARROW ∷ []) ∷ row (LONG_ARROW ∷ []) ∷ row (WORD_STRING ∷ []) ∷ row (WORD_TABLE ∷ []) ∷ [])  -- directive_4
    ∷ (row (PLAIN_ENTRIES ∷ []) ∷ row (OPEN_BRACKET ∷ LISTED_ENTRIES ∷ CLOSE_BRACKET ∷ []) ∷ [])  -- directive_5
    ∷ (row (ARROW ∷ DO_ARROW ∷ DIRECTIVE_6 ∷ []) ∷ row [] ∷ [])  -- directive_6
    ∷ (row (ARROW ∷ DO_ARROW ∷ DIRECTIVE_7 ∷ []) ∷ row [] ∷ [])  -- directive_7
    ∷ (row (WORD_FIRST ∷ []) ∷ row (WORD_LAST ∷ []) ∷ row (WORD_REPLACE ∷ []) ∷ row [] ∷ [])  -- directive_8
    ∷ (row (LINE ∷ DIRECTIVE_9 ∷ []) ∷ row [] ∷ [])  -- directive_9
    ∷ (row (WORD_META ∷ []) ∷ row [] ∷ [])  -- directive_10
    ∷ (row (WORD ∷ DO_VERB_WORD ∷ DIRECTIVE_11 ∷ []) ∷ row [] ∷ [])  -- directive_11
    ∷ (row (DO_END_HEADER ∷ LINE ∷ DIRECTIVE_13 ∷ []) ∷ row (ASSIGN_MARK ∷ WORD ∷ DO_END_HEADER ∷ []) ∷ [])  -- directive_12
    ∷ (row (LINE ∷ DIRECTIVE_13 ∷ []) ∷ row [] ∷ [])  -- directive_13
    ∷ (row (WORD_ATTRIBUTE ∷ NAME ∷ WHOLE_DIRECTIVE_1 ∷ []) ∷ row (WHOLE_DIRECTIVE_2 ∷ NAME ∷ WHOLE_DIRECTIVE_3 ∷ []) ∷  -- whole_directive
    row (WORD_PROPERTY ∷ WHOLE_DIRECTIVE_4 ∷ WHOLE_DIRECTIVE_5 ∷ []) ∷ row (WORD_FAKE_ACTION ∷ NAME ∷ []) ∷
    row (WORD_IFTRUE ∷ DO_OUTER ∷ LOGIC ∷ []) ∷ row (WORD_IFFALSE ∷ DO_OUTER ∷ LOGIC ∷ []) ∷ row (WORD_END ∷ []) ∷
    row (WORD_SYSTEM_FILE ∷ []) ∷ row (WORD_INCLUDE ∷ TEXT ∷ []) ∷ row (WORD_LOWSTRING ∷ NAME ∷ TEXT ∷ []) ∷
    row (WORD_SERIAL ∷ TEXT ∷ []) ∷ row (WORD_MESSAGE ∷ WHOLE_DIRECTIVE_6 ∷ TEXT ∷ []) ∷
    row (WORD_RELEASE ∷ DO_OUTER ∷ ASSIGN ∷ []) ∷ row (WORD_REPLACE ∷ NAME ∷ []) ∷
    row (WORD_STUB ∷ NAME ∷ NUMBER ∷ []) ∷ row (WORD_SWITCHES ∷ NAME ∷ []) ∷ [])
    ∷ (row (WORD_ALIAS ∷ NAME ∷ []) ∷ row [] ∷ [])  -- whole_directive_1
    ∷ (row (WORD_CONSTANT ∷ []) ∷ row (WORD_DEFAULT ∷ []) ∷ row (WORD_GLOBAL ∷ []) ∷ [])  -- whole_directive_2
    ∷ (row (ASSIGN_MARK ∷ DO_OUTER ∷ ASSIGN ∷ []) ∷ row (DO_OUTER ∷ ASSIGN ∷ []) ∷ row [] ∷ [])  -- whole_directive_3
    ∷ (row (WORD_ADDITIVE ∷ NAME ∷ []) ∷ row (NOTADDITIVE ∷ []) ∷ [])  -- whole_directive_4
    ∷ (row (WORD_ALIAS ∷ NAME ∷ []) ∷ row (INITIAL ∷ []) ∷ row [] ∷ [])  -- whole_directive_5
    ∷ (row (WORD_ERROR ∷ []) ∷ row (WORD_WARNING ∷ []) ∷ row (WORD_FATALERROR ∷ []) ∷ row [] ∷ [])  -- whole_directive_6
    ∷ (row (DO_OUTER ∷ INITIAL_1 ∷ []) ∷ [])  -- initial
    ∷ (row (NOTALIAS ∷ DO_NAME ∷ AFTER_PRIM ∷ []) ∷ row (OTHER_ASSIGN ∷ []) ∷ [])  -- initial_1
    ∷ (row (DO_OUTER ∷ ENTRY ∷ PLAIN_ENTRIES_1 ∷ []) ∷ [])  -- plain_entries
    ∷ (row (DO_END_ENTRY ∷ ARRAY_ENTRY ∷ PLAIN_ENTRIES_2 ∷ []) ∷ row (DO_END_ALONE ∷ []) ∷ [])  -- plain_entries_1
    ∷ (row (ARRAY_ENTRY ∷ PLAIN_ENTRIES_2 ∷ []) ∷ row [] ∷ [])  -- plain_entries_2
    ∷ (row (SEMICOLON ∷ DO_SEMICOLON ∷ LISTED_ENTRIES ∷ []) ∷ row (DO_OUTER ∷ ENTRY ∷ FIRST_LISTED ∷ []) ∷ row [] ∷ [])  -- listed_entries
    ∷ (row (DO_END_ENTRY ∷ ARRAY_ENTRY ∷ MORE_LISTED ∷ []) ∷ row (DO_END_ALONE ∷ []) ∷  -- first_listed
    row (DO_HOLD ∷ SEMICOLON ∷ DO_SEMICOLON ∷ HELD ∷ []) ∷ [])
    ∷ (row (SEMICOLON ∷ DO_SEMICOLON ∷ HELD ∷ []) ∷ row (DO_END_ENTRY ∷ ARRAY_ENTRY ∷ MORE_LISTED ∷ []) ∷ row (DO_END_ALONE ∷ []) ∷  -- held
    [])
    ∷ (row (ARRAY_ENTRY ∷ MORE_LISTED ∷ []) ∷ row (SEMICOLON ∷ DO_SEMICOLON ∷ MORE_LISTED ∷ []) ∷ row [] ∷ [])  -- more_listed
    ∷ (row (DO_OUTER ∷ ENTRY ∷ DO_END_ENTRY ∷ []) ∷ [])  -- array_entry
    ∷ (row (OBJECT_1 ∷ DO_END_HEADER ∷ BODY ∷ DO_END_BODY ∷ SEMICOLON ∷ []) ∷ [])  -- object
    ∷ (row (BODYNAME ∷ OBJECT_2 ∷ OBJECT_3 ∷ []) ∷ row (TEXT ∷ OBJECT_4 ∷ []) ∷ row [] ∷ [])  -- object_1
    ∷ (row (TEXT ∷ []) ∷ row [] ∷ [])  -- object_2
    ∷ (row (BODYNAME ∷ []) ∷ row [] ∷ [])  -- object_3
    ∷ (row (BODYNAME ∷ []) ∷ row [] ∷ [])  -- object_4
    ∷ (row (COMMA ∷ PART ∷ []) ∷ row (PART ∷ []) ∷ row [] ∷ [])  -- body
    ∷ (row (WORD_WITH ∷ PROPERTY ∷ PROPERTIES ∷ []) ∷ row (WORD_HAS ∷ PART_1 ∷ BODY ∷ []) ∷  -- part
    row (WORD_CLASS ∷ BODYNAME ∷ DO_END_CLASS ∷ PART_2 ∷ BODY ∷ []) ∷ [])
    ∷ (row (ATTRIBUTE ∷ PART_1 ∷ []) ∷ row [] ∷ [])  -- part_1
    ∷ (row (BODYNAME ∷ DO_END_CLASS ∷ PART_2 ∷ []) ∷ row [] ∷ [])  -- part_2
    ∷ (row (COMMA ∷ PROPERTIES_1 ∷ []) ∷ row (PART ∷ []) ∷ row [] ∷ [])  -- properties
    ∷ (row (PROPERTY ∷ PROPERTIES ∷ []) ∷ row (PART ∷ []) ∷ [])  -- properties_1
    ∷ (row (BODYNAME ∷ PROPERTY_1 ∷ []) ∷ [])  -- property
    ∷ (row (VALUE ∷ PROPERTY_2 ∷ []) ∷ row (DO_END_PROPERTY ∷ []) ∷ [])  -- property_1
    ∷ (row (VALUE ∷ PROPERTY_2 ∷ []) ∷ row [] ∷ [])  -- property_2
    ∷ (row (DO_OUTER ∷ VALUE_1 ∷ DO_END_VALUE ∷ []) ∷  -- value
    row (DO_ROUTINE ∷ OPEN_BRACKET ∷ VALUE_2 ∷ DO_END_EMBEDDED ∷ SEMICOLON ∷ VALUE_3 ∷ DO_END_ROUTINE ∷ CLOSE_BRACKET ∷ []) ∷ [])
    ∷ (row (MINUS ∷ BARE_PRIM ∷ DO_NEGATE ∷ []) ∷ row (BARE_PRIM ∷ []) ∷ [])  -- value_1
    ∷ (row (NAME ∷ DO_LOCAL ∷ VALUE_2 ∷ []) ∷ row [] ∷ [])  -- value_2
    ∷ (row (TOP_ITEM ∷ VALUE_3 ∷ []) ∷ row [] ∷ [])  -- value_3
    ∷ (row (BARENAME ∷ DO_NAME ∷ []) ∷ row (OTHER_PRIM ∷ []) ∷ [])  -- bare_prim
    ∷ (row (ATTRIBUTE_1 ∷ DO_END_ATTRIBUTE ∷ []) ∷ [])  -- attribute
    ∷ (row (BIT_NOT ∷ BODYNAME ∷ []) ∷ row (BODYNAME ∷ []) ∷ [])  -- attribute_1
    ∷ (row (TIMES ∷ LINE_1 ∷ ARROW ∷ NAME ∷ LINE_4 ∷ DO_END_LINE ∷ []) ∷ [])  -- line
    ∷ (row (NAME ∷ LINE_2 ∷ DO_TOKEN ∷ LINE_1 ∷ []) ∷ row (WORD ∷ DO_TOKEN ∷ LINE_3 ∷ LINE_1 ∷ []) ∷ row [] ∷ [])  -- line_1
    ∷ (row (ASSIGN_MARK ∷ NAME ∷ []) ∷ row [] ∷ [])  -- line_2
    ∷ (row (DIVIDE ∷ WORD ∷ DO_TOKEN ∷ LINE_3 ∷ []) ∷ row [] ∷ [])  -- line_3
    ∷ (row (WORD_REVERSE ∷ []) ∷ row [] ∷ [])  -- line_4
    ∷ (row (ASSIGN ∷ EXPRESSION_TAIL ∷ []) ∷ [])  -- expression
    ∷ (row (COMMA ∷ ASSIGN ∷ DO_COMMA ∷ EXPRESSION_TAIL ∷ []) ∷ row [] ∷ [])  -- expression_tail
    ∷ (row (PRIM ∷ AFTER_PRIM ∷ []) ∷ row (PREFIXED ∷ []) ∷ row (MINUS ∷ NEG ∷ DO_NEGATE ∷ AFTER_UNARY ∷ []) ∷ [])  -- assign
    ∷ (row (OTHER_PRIM ∷ AFTER_PRIM ∷ []) ∷ row (PREFIXED ∷ []) ∷ row (MINUS ∷ NEG ∷ DO_NEGATE ∷ AFTER_UNARY ∷ []) ∷ [])  -- other_assign
    ∷ (row (LOGICAL_NOT ∷ NEGATED ∷ DO_NOT ∷ LOGIC_TAIL ∷ ASSIGN_TAIL ∷ []) ∷  -- prefixed
    row (BIT_NOT ∷ BIT ∷ DO_BIT_NOT ∷ TERM_TAIL ∷ SUM_TAIL ∷ TEST_TAIL ∷ LOGIC_TAIL ∷ ASSIGN_TAIL ∷ []) ∷
    row (STEP_PREFIX ∷ AFTER_UNARY ∷ []) ∷ [])
    ∷ (row (ASSIGN_TAIL_1 ∷ []) ∷ [])  -- assign_tail
    ∷ (row (ASSIGN_MARK ∷ ASSIGN ∷ DO_ASSIGN ∷ []) ∷ row [] ∷ [])  -- assign_tail_1
    ∷ (row (NEGATED ∷ LOGIC_TAIL ∷ []) ∷ [])  -- logic
    ∷ (row (LOGIC_OPERATOR ∷ LOGIC_TAIL ∷ []) ∷ row [] ∷ [])  -- logic_tail
    ∷ (row (LOGICAL_AND ∷ NEGATED ∷ DO_AND ∷ []) ∷ row (LOGICAL_OR ∷ NEGATED ∷ DO_OR ∷ []) ∷ [])  -- logic_operator
    ∷ (row (LOGICAL_NOT ∷ NEGATED ∷ DO_NOT ∷ []) ∷ row (SUM ∷ TEST_TAIL ∷ []) ∷ [])  -- negated
    ∷ (row (TEST_TAIL_1 ∷ []) ∷ [])  -- test_tail
    ∷ (row (TEST ∷ []) ∷ row [] ∷ [])  -- test_tail_1
    ∷ (row (EQUAL ∷ TESTED ∷ DO_EQUAL ∷ []) ∷ row (NOT_EQUAL ∷ TESTED ∷ DO_UNEQUAL ∷ []) ∷ row (LESS ∷ TESTED ∷ DO_LESS ∷ []) ∷  -- test
    row (GREATER ∷ TESTED ∷ DO_GREATER ∷ []) ∷ row (LESS_OR_EQUAL ∷ TESTED ∷ DO_LESS_OR_EQUAL ∷ []) ∷
    row (GREATER_OR_EQUAL ∷ TESTED ∷ DO_GREATER_OR_EQUAL ∷ []) ∷ row (WORD_HAS ∷ TESTED ∷ DO_HAS ∷ []) ∷
    row (WORD_HASNT ∷ TESTED ∷ DO_HAS_NOT ∷ []) ∷ row (WORD_IN ∷ TESTED ∷ DO_IN ∷ []) ∷
    row (WORD_NOTIN ∷ TESTED ∷ DO_NOT_IN ∷ []) ∷ row (WORD_OFCLASS ∷ TESTED ∷ DO_OF_CLASS ∷ []) ∷
    row (WORD_PROVIDES ∷ TESTED ∷ DO_PROVIDES ∷ []) ∷ [])
    ∷ (row (DO_COUNT ∷ SUM ∷ DO_PART ∷ TESTED_1 ∷ []) ∷ [])  -- tested
    ∷ (row (WORD_OR ∷ SUM ∷ DO_PART ∷ TESTED_1 ∷ []) ∷ row [] ∷ [])  -- tested_1
    ∷ (row (TERM ∷ SUM_TAIL ∷ []) ∷ [])  -- sum
    ∷ (row (SUM_OPERATOR ∷ SUM_TAIL ∷ []) ∷ row [] ∷ [])  -- sum_tail
    ∷ (row (PLUS ∷ TERM ∷ DO_PLUS ∷ []) ∷ row (MINUS ∷ TERM ∷ DO_MINUS ∷ []) ∷ [])  -- sum_operator
    ∷ (row (BIT ∷ TERM_TAIL ∷ []) ∷ [])  -- term
    ∷ (row (TERM_OPERATOR ∷ TERM_TAIL ∷ []) ∷ row [] ∷ [])  -- term_tail
    ∷ []

abbrev pub rules_2 : List (List (Row Action))
rules_2 =
    (row (TIMES ∷ BIT ∷ DO_TIMES ∷ []) ∷ row (DIVIDE ∷ BIT ∷ DO_DIVIDE ∷ []) ∷ row (REMAINDER ∷ BIT ∷ DO_REMAINDER ∷ []) ∷  -- term_operator
    row (BIT_AND ∷ BIT ∷ DO_BIT_AND ∷ []) ∷ row (BIT_OR ∷ BIT ∷ DO_BIT_OR ∷ []) ∷ [])
    ∷ (row (BIT_NOT ∷ BIT ∷ DO_BIT_NOT ∷ []) ∷ row (NEG ∷ ARRAY_TAIL ∷ []) ∷ [])  -- bit
    ∷ (row (ARRAY_OPERATOR ∷ ARRAY_TAIL ∷ []) ∷ row [] ∷ [])  -- array_tail
    ∷ (row (ARROW ∷ NEG ∷ DO_BYTE_ENTRY ∷ []) ∷ row (LONG_ARROW ∷ NEG ∷ DO_WORD_ENTRY ∷ []) ∷ [])  -- array_operator
    ∷ (row (MINUS ∷ NEG ∷ DO_NEGATE ∷ []) ∷ row (INC ∷ []) ∷ [])  -- neg
    ∷ (row (STEP_PREFIX ∷ []) ∷ row (POST ∷ ADDRESS_TAIL ∷ STEP_TAIL ∷ []) ∷ [])  -- inc
    ∷ (row (INCREMENT ∷ INC ∷ DO_INCREMENT_BEFORE ∷ []) ∷ row (DECREMENT ∷ INC ∷ DO_DECREMENT_BEFORE ∷ []) ∷ [])  -- step_prefix
    ∷ (row (STEP_OPERATOR ∷ STEP_TAIL ∷ []) ∷ row [] ∷ [])  -- step_tail
    ∷ (row (INCREMENT ∷ DO_INCREMENT_AFTER ∷ []) ∷ row (DECREMENT ∷ DO_DECREMENT_AFTER ∷ []) ∷ [])  -- step_operator
    ∷ (row (ADDRESS_OPERATOR ∷ ADDRESS_TAIL ∷ []) ∷ row [] ∷ [])  -- address_tail
    ∷ (row (DOT_AND ∷ POST ∷ DO_MEMBER_ADDRESS ∷ []) ∷ row (DOT_HASH ∷ POST ∷ DO_MEMBER_LENGTH ∷ []) ∷ [])  -- address_operator
    ∷ (row (PRIM ∷ POST_TAIL ∷ []) ∷ [])  -- post
    ∷ (row (DOT ∷ PRIM ∷ DO_MEMBER ∷ POST_TAIL ∷ []) ∷ row (CALL ∷ POST_TAIL ∷ []) ∷ row_unless 83 [] ∷ [])  -- post_tail
    ∷ (row (OPEN_PARENTHESIS ∷ DO_COUNT ∷ CALL_1 ∷ CLOSE_PARENTHESIS ∷ DO_CALL ∷ []) ∷ [])  -- call
    ∷ (row (ASSIGN ∷ DO_PART ∷ CALL_2 ∷ []) ∷ row [] ∷ [])  -- call_1
    ∷ (row (COMMA ∷ ASSIGN ∷ DO_PART ∷ CALL_2 ∷ []) ∷ row [] ∷ [])  -- call_2
    ∷ (row (OPERAND ∷ DO_NAME ∷ []) ∷ row (OTHER_PRIM ∷ []) ∷ [])  -- prim
    ∷ (row (PLAIN_PRIM ∷ []) ∷ row (TEXT ∷ DO_TEXT ∷ []) ∷ row (BRACKETED ∷ []) ∷ [])  -- other_prim
    ∷ (row (OPEN_PARENTHESIS ∷ DO_BRACKET ∷ EXPRESSION ∷ DO_BRACKETED ∷ CLOSE_PARENTHESIS ∷ []) ∷ [])  -- bracketed
    ∷ (row (NUMBER ∷ DO_NUMBER ∷ []) ∷ row (CHAR ∷ DO_CHAR ∷ []) ∷ row (WORD ∷ DO_WORD ∷ []) ∷  -- plain_prim
    row (DOUBLE_HASH ∷ OPERAND ∷ DO_ACTION ∷ []) ∷ row (HASH ∷ OPERAND ∷ DO_SYSTEM ∷ []) ∷ [])
    ∷ (row (MINUS ∷ PRIM ∷ DO_NEGATE ∷ []) ∷ row (PRIM ∷ []) ∷ [])  -- entry
    ∷ (row (POST_TAIL ∷ ADDRESS_TAIL ∷ STEP_TAIL ∷ AFTER_UNARY ∷ []) ∷ [])  -- after_prim
    ∷ (row (ARRAY_TAIL ∷ TERM_TAIL ∷ SUM_TAIL ∷ TEST_TAIL ∷ LOGIC_TAIL ∷ ASSIGN_TAIL ∷ []) ∷ [])  -- after_unary
    ∷ (row (CALL ∷ POST_TAIL ∷ ADDRESS_TAIL ∷ STEP_TAIL ∷ AFTER_UNARY ∷ []) ∷ row (OTHER_OPERATOR ∷ []) ∷ [])  -- operator
    ∷ (row (MEMBER_OPERATOR ∷ AFTER_UNARY ∷ []) ∷ row (OUTER_OPERATOR ∷ []) ∷ [])  -- other_operator
    ∷ (row (CALL ∷ POST_TAIL ∷ ADDRESS_TAIL ∷ STEP_TAIL ∷ []) ∷ row (MEMBER_OPERATOR ∷ []) ∷ [])  -- inner_operator
    ∷ (row (DOT ∷ PRIM ∷ DO_MEMBER ∷ POST_TAIL ∷ ADDRESS_TAIL ∷ STEP_TAIL ∷ []) ∷  -- member_operator
    row (ADDRESS_OPERATOR ∷ ADDRESS_TAIL ∷ STEP_TAIL ∷ []) ∷ row (STEP_OPERATOR ∷ STEP_TAIL ∷ []) ∷ [])
    ∷ (row (ARRAY_OPERATOR ∷ AFTER_UNARY ∷ []) ∷  -- outer_operator
    row (TERM_OPERATOR ∷ TERM_TAIL ∷ SUM_TAIL ∷ TEST_TAIL ∷ LOGIC_TAIL ∷ ASSIGN_TAIL ∷ []) ∷
    row (SUM_OPERATOR ∷ SUM_TAIL ∷ TEST_TAIL ∷ LOGIC_TAIL ∷ ASSIGN_TAIL ∷ []) ∷
    row (TEST ∷ LOGIC_TAIL ∷ ASSIGN_TAIL ∷ []) ∷ row (LOGIC_OPERATOR ∷ LOGIC_TAIL ∷ ASSIGN_TAIL ∷ []) ∷
    row (ASSIGN_MARK ∷ ASSIGN ∷ DO_ASSIGN ∷ []) ∷ [])
    ∷ (row (MARK_STATEMENT ∷ []) ∷ row (DO_BEGIN ∷ TEXT_STATEMENT ∷ []) ∷  -- statement
    row (DO_BEGIN ∷ DO_OUTER ∷ BEGINNAME ∷ DO_NAME ∷ AFTER_PRIM ∷ STATEMENT_END ∷ []) ∷
    row (DO_BEGIN ∷ DO_OUTER ∷ STATEMENT_1 ∷ AFTER_PRIM ∷ STATEMENT_END ∷ []) ∷
    row (DO_BEGIN ∷ DO_OUTER ∷ STATEMENT_2 ∷ STATEMENT_END ∷ []) ∷ row (DO_DEEPER ∷ STATEMENT_3 ∷ []) ∷
    row (DO_BEGIN ∷ STATEMENT_4 ∷ PRINT_REST ∷ []) ∷ row (DO_BEGIN ∷ WORD_RETURN ∷ RETURN_REST ∷ []) ∷
    row (DO_BEGIN ∷ PLAIN_WORD ∷ END ∷ []) ∷ row (DO_BEGIN ∷ WORD_JUMP ∷ JUMP_REST ∷ []) ∷
    row (DO_BEGIN ∷ WORD_GIVE ∷ GIVE_REST ∷ []) ∷ row (DO_BEGIN ∷ WORD_MOVE ∷ MOVE_REST ∷ []) ∷
    row (DO_BEGIN ∷ STATEMENT_5 ∷ OF_EXPRESSION ∷ []) ∷ row (DO_BEGIN ∷ WORD_STRING ∷ STRING_REST ∷ []) ∷
    row (DO_BEGIN ∷ WORD_STYLE ∷ STYLE_REST ∷ []) ∷ [])
    ∷ (row (PLAIN_PRIM ∷ []) ∷ row (BRACKETED ∷ []) ∷ [])  -- statement_1
    ∷ (row (PREFIXED ∷ []) ∷ row (MINUS ∷ NEG ∷ DO_NEGATE ∷ AFTER_UNARY ∷ []) ∷ [])  -- statement_2
    ∷ (row (WORD_IF ∷ IF_REST ∷ []) ∷ row (WORD_WHILE ∷ WHILE_REST ∷ []) ∷ row (WORD_DO ∷ DO_REST ∷ []) ∷  -- statement_3
    row (WORD_FOR ∷ FOR_REST ∷ []) ∷ row (WORD_OBJECTLOOP ∷ OBJECTLOOP_REST ∷ []) ∷ row (WORD_SWITCH ∷ SWITCH_REST ∷ []) ∷ [])
    ∷ (row (WORD_PRINT ∷ []) ∷ row (WORD_PRINT_RET ∷ []) ∷ [])  -- statement_4
    ∷ (row (WORD_REMOVE ∷ []) ∷ row (WORD_SPACES ∷ []) ∷ [])  -- statement_5
    ∷ (row (WORD_BREAK ∷ []) ∷ row (WORD_CONTINUE ∷ []) ∷ row (WORD_QUIT ∷ []) ∷ row (WORD_RTRUE ∷ []) ∷  -- plain_word
    row (WORD_RFALSE ∷ []) ∷ row (WORD_NEW_LINE ∷ []) ∷ [])
    ∷ (row (DO_END_STATEMENT ∷ SEMICOLON ∷ []) ∷ [])  -- end
    ∷ (row (EXPRESSION_TAIL ∷ END ∷ []) ∷ [])  -- statement_end
    ∷ (row (DO_BEGIN ∷ END ∷ []) ∷ row (OPEN_BRACE ∷ MARK_STATEMENT_1 ∷ CLOSE_BRACE ∷ []) ∷  -- mark_statement
    row (DO_BEGIN ∷ DOT ∷ NAME ∷ END ∷ []) ∷ row (DO_BEGIN ∷ LESS ∷ ACT ∷ GREATER ∷ END ∷ []) ∷
    row (DO_BEGIN ∷ DOUBLE_LESS ∷ ACT ∷ DOUBLE_GREATER ∷ END ∷ []) ∷ row (DO_BEGIN ∷ AT ∷ NAME ∷ ASSEMBLY ∷ END ∷ []) ∷ [])
    ∷ (row (STATEMENT ∷ MARK_STATEMENT_1 ∷ []) ∷ row [] ∷ [])  -- mark_statement_1
    ∷ (row (DO_OUTER_MAYBE ∷ TEXT ∷ TEXT_STATEMENT_1 ∷ []) ∷ [])  -- text_statement
    ∷ (row (DO_PRINT_TEXT ∷ END ∷ []) ∷ row (DO_OUTER_SURE ∷ DO_TEXT ∷ TEXT_MORE ∷ []) ∷ [])  -- text_statement_1
    ∷ (row (OPERATOR ∷ STATEMENT_END ∷ []) ∷ row (COMMA ∷ ASSIGN ∷ DO_COMMA ∷ STATEMENT_END ∷ []) ∷ [])  -- text_more
    ∷ (row (DO_OPEN_IF ∷ OPEN_PARENTHESIS ∷ DO_BEGIN ∷ DO_OUTER ∷ EXPRESSION ∷ DO_END_IF ∷ CLOSE_PARENTHESIS ∷ STATEMENT ∷ ELSE_PART ∷  -- if_rest
    []) ∷ [])
    ∷ (row (DO_ELSE ∷ WORD_ELSE ∷ STATEMENT ∷ DO_CLOSE ∷ []) ∷ row_unless 115 (DO_CLOSE ∷ []) ∷ [])  -- else_part
    ∷ (row (DO_OPEN_WHILE ∷ OPEN_PARENTHESIS ∷ DO_BEGIN ∷ DO_OUTER ∷ EXPRESSION ∷ DO_END_WHILE ∷ CLOSE_PARENTHESIS ∷ STATEMENT ∷  -- while_rest
    DO_CLOSE ∷ []) ∷ [])
    ∷ (row (DO_OPEN_DO ∷ STATEMENT ∷ WORD_UNTIL ∷ DO_UNTIL ∷ OPEN_PARENTHESIS ∷ DO_BEGIN ∷ DO_OUTER ∷ EXPRESSION ∷ DO_END_UNTIL ∷  -- do_rest
    CLOSE_PARENTHESIS ∷ SEMICOLON ∷ DO_CLOSE ∷ []) ∷ [])
    ∷ (row (DO_OPEN_FOR ∷ OPEN_PARENTHESIS ∷ FOR_REST_1 ∷ DO_FOR_TOP ∷ COLON ∷ FOR_REST_2 ∷ COLON ∷ FOR_REST_3 ∷ CLOSE_PARENTHESIS ∷  -- for_rest
    STATEMENT ∷ DO_CLOSE ∷ []) ∷ [])
    ∷ (row (DO_BEGIN ∷ DO_OUTER ∷ EXPRESSION ∷ DO_END_FOR_START ∷ []) ∷ row [] ∷ [])  -- for_rest_1
    ∷ (row (DO_BEGIN ∷ DO_OUTER ∷ EXPRESSION ∷ DO_END_FOR_TEST ∷ []) ∷ row [] ∷ [])  -- for_rest_2
    ∷ (row (DO_BEGIN ∷ DO_OUTER ∷ EXPRESSION ∷ DO_END_FOR_STEP ∷ []) ∷ row [] ∷ [])  -- for_rest_3
    ∷ (row (DO_OPEN_OBJECTLOOP ∷ OPEN_PARENTHESIS ∷ DO_BEGIN ∷ DO_OUTER ∷ EXPRESSION ∷ DO_END_OBJECTLOOP ∷ DO_LOOP ∷ CLOSE_PARENTHESIS ∷  -- objectloop_rest
    STATEMENT ∷ DO_CLOSE ∷ []) ∷ [])
    ∷ (row (DO_OPEN_SWITCH ∷ OPEN_PARENTHESIS ∷ DO_BEGIN ∷ DO_OUTER ∷ EXPRESSION ∷ DO_END_SWITCH ∷ CLOSE_PARENTHESIS ∷ OPEN_BRACE ∷  -- switch_rest
    SWITCH_REST_1 ∷ CLOSE_BRACE ∷ DO_CLOSE ∷ []) ∷ [])
    ∷ (row (FIRST_CASE ∷ SWITCH_REST_2 ∷ []) ∷ row [] ∷ [])  -- switch_rest_1
    ∷ (row (SWITCH_ITEM ∷ SWITCH_REST_2 ∷ []) ∷ row [] ∷ [])  -- switch_rest_2
    ∷ (row (ITEM ∷ PRINT_REST_1 ∷ END ∷ []) ∷ [])  -- print_rest
    ∷ (row (COMMA ∷ ITEM ∷ PRINT_REST_1 ∷ []) ∷ row [] ∷ [])  -- print_rest_1
    ∷ (row (RETURN_REST_1 ∷ END ∷ []) ∷ [])  -- return_rest
    ∷ (row (DO_OUTER ∷ EXPRESSION ∷ []) ∷ row [] ∷ [])  -- return_rest_1
    ∷ (row (NAME ∷ END ∷ []) ∷ [])  -- jump_rest
    ∷ (row (DO_OUTER ∷ POST ∷ DO_OUTER_END ∷ GIVE_REST_1 ∷ END ∷ []) ∷ [])  -- give_rest
    ∷ (row (DO_OUTER ∷ PRIM ∷ DO_OUTER_END ∷ DO_SET ∷ GIVE_REST_1 ∷ []) ∷  -- give_rest_1
    row (BIT_NOT ∷ DO_OUTER ∷ PRIM ∷ DO_OUTER_END ∷ DO_CLEAR ∷ GIVE_REST_1 ∷ []) ∷ row [] ∷ [])
    ∷ (row (DO_OUTER ∷ POST ∷ DO_OUTER_END ∷ WORD_TO ∷ DO_OUTER ∷ POST ∷ END ∷ []) ∷ [])  -- move_rest
    ∷ (row (DO_OUTER ∷ EXPRESSION ∷ END ∷ []) ∷ [])  -- of_expression
    ∷ (row (DO_OUTER ∷ ASSIGN ∷ DO_OUTER_END ∷ TEXT ∷ DO_PRINT_TEXT ∷ END ∷ []) ∷ [])  -- string_rest
    ∷ (row (NAME ∷ END ∷ []) ∷ [])  -- style_rest
    ∷ (row (ACT_1 ∷ ACT_2 ∷ []) ∷ [])  -- act
    ∷ (row (NAME ∷ DO_ACTION ∷ []) ∷ row (OPEN_PARENTHESIS ∷ DO_OUTER ∷ EXPRESSION ∷ DO_OUTER_END ∷ CLOSE_PARENTHESIS ∷ []) ∷ [])  -- act_1
    ∷ (row (DO_OUTER ∷ POST ∷ DO_OUTER_END ∷ ACT_3 ∷ []) ∷ row [] ∷ [])  -- act_2
    ∷ (row (DO_OUTER ∷ POST ∷ DO_OUTER_END ∷ []) ∷ row [] ∷ [])  -- act_3
    ∷ (row (DO_OUTER_MAYBE ∷ TEXT ∷ ASSEMBLY_1 ∷ []) ∷ row (DO_OUTER ∷ ASSEMBLY_3 ∷ DO_OUTER_END ∷ OPERANDS ∷ []) ∷  -- assembly
    row (STORE_OR_BRANCH ∷ []) ∷ row [] ∷ [])
    ∷ (row (DO_ASM_TEXT ∷ []) ∷ row (DO_OUTER_SURE ∷ DO_TEXT ∷ DO_OUTER_END ∷ ASSEMBLY_2 ∷ []) ∷ [])  -- assembly_1
    ∷ (row (DO_OUTER ∷ ENTRY ∷ DO_OUTER_END ∷ OPERANDS ∷ []) ∷ row (STORE_OR_BRANCH ∷ []) ∷ [])  -- assembly_2
    ∷ (row (OPERAND ∷ DO_NAME ∷ []) ∷ row (PLAIN_PRIM ∷ []) ∷ row (BRACKETED ∷ []) ∷ row (MINUS ∷ PRIM ∷ DO_NEGATE ∷ []) ∷  -- assembly_3
    [])
    ∷ (row (OPERANDS_1 ∷ OPERANDS_2 ∷ []) ∷ [])  -- operands
    ∷ (row (DO_OUTER ∷ ENTRY ∷ DO_OUTER_END ∷ OPERANDS_1 ∷ []) ∷ row [] ∷ [])  -- operands_1
    ∷ (row (STORE_OR_BRANCH ∷ []) ∷ row [] ∷ [])  -- operands_2
    ∷ (row (ARROW ∷ NAME ∷ DO_STORE ∷ STORE_OR_BRANCH_1 ∷ []) ∷ row (BRANCH ∷ []) ∷ [])  -- store_or_branch
    ∷ (row (BRANCH ∷ []) ∷ row [] ∷ [])  -- store_or_branch_1
    ∷ (row (QUESTION ∷ BRANCH_1 ∷ []) ∷ [])  -- branch
    ∷ (row (NAME ∷ DO_BRANCH ∷ []) ∷ row (BIT_NOT ∷ NAME ∷ DO_BRANCH_NOT ∷ []) ∷ [])  -- branch_1
    ∷ []

abbrev pub rules_3 : List (List (Row Action))
rules_3 =
    (row (DO_OUTER_MAYBE ∷ TEXT ∷ ITEM_1 ∷ []) ∷ row (DO_OUTER_MAYBE ∷ OPEN_PARENTHESIS ∷ DO_BRACKET ∷ BRACKET_ITEM ∷ []) ∷  -- item
    row (DO_OUTER ∷ ITEM_2 ∷ DO_PRINT_VALUE ∷ []) ∷ [])
    ∷ (row (DO_OUTER_SURE ∷ DO_TEXT ∷ OPERATOR ∷ DO_PRINT_VALUE ∷ []) ∷ row (DO_PRINT_TEXT ∷ []) ∷ [])  -- item_1
    ∷ (row (OPERAND ∷ DO_NAME ∷ AFTER_PRIM ∷ []) ∷ row (PLAIN_PRIM ∷ AFTER_PRIM ∷ []) ∷ row (PREFIXED ∷ []) ∷  -- item_2
    row (MINUS ∷ NEG ∷ DO_NEGATE ∷ AFTER_UNARY ∷ []) ∷ [])
    ∷ (row (DO_OUTER_END ∷ RESERVED ∷ DO_NAME ∷ CLOSE_PARENTHESIS ∷ RULED ∷ []) ∷  -- bracket_item
    row (OPERAND ∷ DO_NAME ∷ BRACKET_NAME ∷ []) ∷
    row (DO_OUTER_SURE ∷ OTHER_ASSIGN ∷ EXPRESSION_TAIL ∷ DO_BRACKETED ∷ CLOSE_PARENTHESIS ∷ AFTER_PRIM ∷ DO_PRINT_VALUE ∷ []) ∷ [])
    ∷ (row (CLOSE_PARENTHESIS ∷ BRACKET_NAME_1 ∷ []) ∷  -- bracket_name
    row (DO_OUTER_SURE ∷ BRACKET_NAME_2 ∷ DO_BRACKETED ∷ CLOSE_PARENTHESIS ∷ AFTER_PRIM ∷ DO_PRINT_VALUE ∷ []) ∷ [])
    ∷ (row (RULED ∷ []) ∷ row (DO_OUTER_SURE ∷ DO_BRACKETED ∷ OTHER_OPERATOR ∷ DO_PRINT_VALUE ∷ []) ∷  -- bracket_name_1
    row (DO_OUTER_SURE ∷ DO_BRACKETED ∷ DO_PRINT_VALUE ∷ []) ∷ [])
    ∷ (row (OPERATOR ∷ EXPRESSION_TAIL ∷ []) ∷ row (COMMA ∷ ASSIGN ∷ DO_COMMA ∷ EXPRESSION_TAIL ∷ []) ∷ [])  -- bracket_name_2
    ∷ (row (DO_RULE ∷ DO_OUTER ∷ PRIM ∷ AFTER_PRIM ∷ DO_PRINT_RULE ∷ []) ∷ [])  -- ruled
    ∷ (row (MARK_STATEMENT ∷ []) ∷ row (DO_BEGIN ∷ TEXT_STATEMENT ∷ []) ∷  -- top_item
    row (DO_BEGIN ∷ DO_OUTER ∷ CASENAME ∷ DO_NAME ∷ TOP_ITEM_1 ∷ []) ∷ row (DO_BEGIN ∷ DO_OUTER ∷ WORD_DEFAULT ∷ TOP_ITEM_2 ∷ []) ∷
    row (DO_BEGIN ∷ DO_OUTER ∷ TOP_ITEM_3 ∷ AFTER_PRIM ∷ STATEMENT_END ∷ []) ∷
    row (DO_BEGIN ∷ DO_OUTER ∷ TOP_ITEM_4 ∷ STATEMENT_END ∷ []) ∷ row (WORD_IF ∷ TOP_ITEM_5 ∷ []) ∷
    row (WORD_WHILE ∷ TOP_ITEM_6 ∷ []) ∷ row (WORD_DO ∷ TOP_ITEM_7 ∷ []) ∷ row (WORD_FOR ∷ TOP_ITEM_8 ∷ []) ∷
    row (WORD_OBJECTLOOP ∷ TOP_ITEM_9 ∷ []) ∷ row (WORD_SWITCH ∷ TOP_ITEM_10 ∷ []) ∷
    row (DO_BEGIN ∷ TOP_ITEM_11 ∷ TOP_ITEM_12 ∷ []) ∷ row (DO_BEGIN ∷ WORD_RETURN ∷ TOP_ITEM_13 ∷ []) ∷
    row (DO_BEGIN ∷ PLAIN_WORD ∷ TOP_ITEM_14 ∷ []) ∷ row (DO_BEGIN ∷ WORD_JUMP ∷ TOP_ITEM_15 ∷ []) ∷
    row (DO_BEGIN ∷ WORD_GIVE ∷ TOP_ITEM_16 ∷ []) ∷ row (DO_BEGIN ∷ WORD_MOVE ∷ TOP_ITEM_17 ∷ []) ∷
    row (DO_BEGIN ∷ TOP_ITEM_18 ∷ TOP_ITEM_19 ∷ []) ∷ row (DO_BEGIN ∷ WORD_STRING ∷ TOP_ITEM_20 ∷ []) ∷
    row (DO_BEGIN ∷ WORD_STYLE ∷ TOP_ITEM_21 ∷ []) ∷ row (DO_OUTER ∷ WORD_ELSE ∷ TOP_WORD ∷ []) ∷ [])
    ∷ (row (CASE_END ∷ []) ∷ row (TOP_MORE ∷ []) ∷ [])  -- top_item_1
    ∷ (row (DO_DEFAULT ∷ CASE_END ∷ []) ∷ row (DO_NAME ∷ TOP_MORE ∷ []) ∷ [])  -- top_item_2
    ∷ (row (PLAIN_PRIM ∷ []) ∷ row (BRACKETED ∷ []) ∷ [])  -- top_item_3
    ∷ (row (PREFIXED ∷ []) ∷ row (MINUS ∷ NEG ∷ DO_NEGATE ∷ AFTER_UNARY ∷ []) ∷ [])  -- top_item_4
    ∷ (row (IF_REST ∷ []) ∷ row (TOP_WORD ∷ []) ∷ [])  -- top_item_5
    ∷ (row (WHILE_REST ∷ []) ∷ row (TOP_WORD ∷ []) ∷ [])  -- top_item_6
    ∷ (row (DO_REST ∷ []) ∷ row (TOP_WORD ∷ []) ∷ [])  -- top_item_7
    ∷ (row (FOR_REST ∷ []) ∷ row (TOP_WORD ∷ []) ∷ [])  -- top_item_8
    ∷ (row (OBJECTLOOP_REST ∷ []) ∷ row (TOP_WORD ∷ []) ∷ [])  -- top_item_9
    ∷ (row (SWITCH_REST ∷ []) ∷ row (TOP_WORD ∷ []) ∷ [])  -- top_item_10
    ∷ (row (WORD_PRINT ∷ []) ∷ row (WORD_PRINT_RET ∷ []) ∷ [])  -- top_item_11
    ∷ (row (PRINT_REST ∷ []) ∷ row (TOP_WORD ∷ []) ∷ [])  -- top_item_12
    ∷ (row (RETURN_REST ∷ []) ∷ row (TOP_WORD ∷ []) ∷ [])  -- top_item_13
    ∷ (row (END ∷ []) ∷ row (TOP_WORD ∷ []) ∷ [])  -- top_item_14
    ∷ (row (JUMP_REST ∷ []) ∷ row (DO_OUTER_WORD ∷ DO_NAME ∷ TOP_VALUES ∷ []) ∷ [])  -- top_item_15
    ∷ (row (GIVE_REST ∷ []) ∷ row (TOP_WORD ∷ []) ∷ [])  -- top_item_16
    ∷ (row (MOVE_REST ∷ []) ∷ row (TOP_WORD ∷ []) ∷ [])  -- top_item_17
    ∷ (row (WORD_REMOVE ∷ []) ∷ row (WORD_SPACES ∷ []) ∷ [])  -- top_item_18
    ∷ (row (OF_EXPRESSION ∷ []) ∷ row (TOP_WORD ∷ []) ∷ [])  -- top_item_19
    ∷ (row (STRING_REST ∷ []) ∷ row (TOP_WORD ∷ []) ∷ [])  -- top_item_20
    ∷ (row (NOTTO ∷ END ∷ []) ∷ row (TOP_WORD ∷ []) ∷ [])  -- top_item_21
    ∷ (row (DO_END_CASE ∷ COLON ∷ []) ∷ [])  -- case_end
    ∷ (row (DO_OUTER_WORD ∷ DO_NAME ∷ TOP_WORD_1 ∷ []) ∷ [])  -- top_word
    ∷ (row (TOP_RANGE ∷ []) ∷ row (TOP_VALUES ∷ []) ∷ [])  -- top_word_1
    ∷ (row (WORD_TO ∷ OPERAND ∷ DO_NAME ∷ DO_TO ∷ TOP_VALUES ∷ []) ∷ [])  -- top_range
    ∷ (row (TOP_VALUES_1 ∷ CASE_END ∷ []) ∷ [])  -- top_values
    ∷ (row (COMMA ∷ OPERAND ∷ DO_NAME ∷ TOP_VALUES_2 ∷ DO_COMMA ∷ TOP_VALUES_1 ∷ []) ∷ row [] ∷ [])  -- top_values_1
    ∷ (row (WORD_TO ∷ OPERAND ∷ DO_NAME ∷ DO_TO ∷ []) ∷ row [] ∷ [])  -- top_values_2
    ∷ (row (OPERATOR ∷ STATEMENT_END ∷ []) ∷ row (TOP_RANGE ∷ []) ∷ row (COMMA ∷ TOP_NEXT ∷ []) ∷ row (END ∷ []) ∷ [])  -- top_more
    ∷ (row (OPERAND ∷ DO_NAME ∷ TOP_FOLLOWING ∷ []) ∷ row (OTHER_ASSIGN ∷ DO_COMMA ∷ STATEMENT_END ∷ []) ∷ [])  -- top_next
    ∷ (row (OPERATOR ∷ DO_COMMA ∷ STATEMENT_END ∷ []) ∷  -- top_following
    row (WORD_TO ∷ OPERAND ∷ DO_NAME ∷ DO_TO ∷ DO_COMMA ∷ TOP_VALUES ∷ []) ∷ row (DO_COMMA ∷ TOP_FOLLOWING_1 ∷ []) ∷ [])
    ∷ (row (CASE_END ∷ []) ∷ row (COMMA ∷ TOP_NEXT ∷ []) ∷ row (END ∷ []) ∷ [])  -- top_following_1
    ∷ (row (DO_OUTER ∷ WORD_DEFAULT ∷ FIRST_CASE_1 ∷ []) ∷ row (DO_OUTER ∷ FIRST_CASE_3 ∷ FIRST_CASE_4 ∷ []) ∷ [])  -- first_case
    ∷ (row (DO_DEFAULT ∷ CASE_END ∷ []) ∷ row (DO_NAME ∷ FIRST_CASE_2 ∷ []) ∷ [])  -- first_case_1
    ∷ (row (RANGE ∷ VALUES ∷ []) ∷ row (COMMA ∷ CASE_VALUE ∷ DO_COMMA ∷ VALUES ∷ []) ∷ [])  -- first_case_2
    ∷ (row (NOTDEFAULT ∷ DO_NAME ∷ []) ∷ row (OTHER_PRIM ∷ []) ∷ row (MINUS ∷ PRIM ∷ DO_NEGATE ∷ []) ∷ [])  -- first_case_3
    ∷ (row (RANGE ∷ VALUES ∷ []) ∷ row (VALUES ∷ []) ∷ [])  -- first_case_4
    ∷ (row (VALUES_1 ∷ CASE_END ∷ []) ∷ [])  -- values
    ∷ (row (COMMA ∷ CASE_VALUE ∷ DO_COMMA ∷ VALUES_1 ∷ []) ∷ row [] ∷ [])  -- values_1
    ∷ (row (ENTRY ∷ CASE_VALUE_1 ∷ []) ∷ [])  -- case_value
    ∷ (row (RANGE ∷ []) ∷ row [] ∷ [])  -- case_value_1
    ∷ (row (WORD_TO ∷ ENTRY ∷ DO_TO ∷ []) ∷ [])  -- range
    ∷ (row (MARK_STATEMENT ∷ []) ∷ row (DO_BEGIN ∷ DO_OUTER_MAYBE ∷ TEXT ∷ SWITCH_ITEM_1 ∷ []) ∷  -- switch_item
    row (DO_BEGIN ∷ DO_OUTER ∷ CASENAME ∷ DO_NAME ∷ SWITCH_ITEM_3 ∷ []) ∷ row (DO_BEGIN ∷ DO_OUTER ∷ WORD_DEFAULT ∷ SWITCH_ITEM_4 ∷ []) ∷
    row (DO_BEGIN ∷ DO_OUTER ∷ SWITCH_ITEM_6 ∷ SWITCH_ITEM_7 ∷ []) ∷
    row (DO_BEGIN ∷ DO_OUTER ∷ MINUS ∷ SWITCH_ITEM_8 ∷ []) ∷ row (DO_BEGIN ∷ DO_OUTER ∷ PREFIXED ∷ STATEMENT_END ∷ []) ∷
    row (DO_MAYBE_DEEPER ∷ WORD_IF ∷ SWITCH_ITEM_10 ∷ []) ∷ row (DO_MAYBE_DEEPER ∷ WORD_WHILE ∷ SWITCH_ITEM_11 ∷ []) ∷
    row (DO_MAYBE_DEEPER ∷ WORD_DO ∷ SWITCH_ITEM_12 ∷ []) ∷ row (DO_MAYBE_DEEPER ∷ WORD_FOR ∷ SWITCH_ITEM_13 ∷ []) ∷
    row (DO_MAYBE_DEEPER ∷ WORD_OBJECTLOOP ∷ SWITCH_ITEM_14 ∷ []) ∷
    row (DO_MAYBE_DEEPER ∷ WORD_SWITCH ∷ SWITCH_ITEM_15 ∷ []) ∷ row (DO_BEGIN ∷ SWITCH_ITEM_16 ∷ SWITCH_ITEM_17 ∷ []) ∷
    row (DO_BEGIN ∷ WORD_RETURN ∷ SWITCH_ITEM_18 ∷ []) ∷ row (DO_BEGIN ∷ PLAIN_WORD ∷ SWITCH_ITEM_19 ∷ []) ∷
    row (DO_BEGIN ∷ WORD_JUMP ∷ SWITCH_ITEM_20 ∷ []) ∷ row (DO_BEGIN ∷ WORD_GIVE ∷ SWITCH_ITEM_21 ∷ []) ∷
    row (DO_BEGIN ∷ WORD_MOVE ∷ SWITCH_ITEM_22 ∷ []) ∷ row (DO_BEGIN ∷ SWITCH_ITEM_23 ∷ SWITCH_ITEM_24 ∷ []) ∷
    row (DO_BEGIN ∷ WORD_STRING ∷ SWITCH_ITEM_25 ∷ []) ∷ row (DO_BEGIN ∷ WORD_STYLE ∷ SWITCH_ITEM_26 ∷ []) ∷
    row (DO_OUTER ∷ WORD_ELSE ∷ SWITCH_WORD ∷ []) ∷ [])
    ∷ (row (DO_PRINT_TEXT ∷ END ∷ []) ∷ row (DO_OUTER_SURE ∷ DO_TEXT ∷ SWITCH_ITEM_2 ∷ []) ∷ [])  -- switch_item_1
    ∷ (row (CASE_END ∷ []) ∷ row (SWITCH_MORE ∷ []) ∷ [])  -- switch_item_2
    ∷ (row (CASE_END ∷ []) ∷ row (END ∷ []) ∷ row (SWITCH_MORE ∷ []) ∷ [])  -- switch_item_3
    ∷ (row (DO_DEFAULT ∷ CASE_END ∷ []) ∷ row (DO_NAME ∷ SWITCH_ITEM_5 ∷ []) ∷ [])  -- switch_item_4
    ∷ (row (END ∷ []) ∷ row (SWITCH_MORE ∷ []) ∷ [])  -- switch_item_5
    ∷ (row (PLAIN_PRIM ∷ []) ∷ row (BRACKETED ∷ []) ∷ [])  -- switch_item_6
    ∷ (row (CASE_END ∷ []) ∷ row (END ∷ []) ∷ row (SWITCH_MORE ∷ []) ∷ [])  -- switch_item_7
    ∷ (row (PRIM ∷ MINUS_MORE ∷ []) ∷ row (SWITCH_ITEM_9 ∷ DO_NEGATE ∷ AFTER_UNARY ∷ STATEMENT_END ∷ []) ∷ [])  -- switch_item_8
    ∷ (row (MINUS ∷ NEG ∷ DO_NEGATE ∷ []) ∷ row (STEP_PREFIX ∷ []) ∷ [])  -- switch_item_9
    ∷ (row (IF_REST ∷ []) ∷ row (SWITCH_WORD ∷ []) ∷ [])  -- switch_item_10
    ∷ (row (WHILE_REST ∷ []) ∷ row (SWITCH_WORD ∷ []) ∷ [])  -- switch_item_11
    ∷ (row (DO_REST ∷ []) ∷ row (SWITCH_WORD ∷ []) ∷ [])  -- switch_item_12
    ∷ (row (FOR_REST ∷ []) ∷ row (SWITCH_WORD ∷ []) ∷ [])  -- switch_item_13
    ∷ (row (OBJECTLOOP_REST ∷ []) ∷ row (SWITCH_WORD ∷ []) ∷ [])  -- switch_item_14
    ∷ (row (SWITCH_REST ∷ []) ∷ row (SWITCH_WORD ∷ []) ∷ [])  -- switch_item_15
    ∷ (row (WORD_PRINT ∷ []) ∷ row (WORD_PRINT_RET ∷ []) ∷ [])  -- switch_item_16
    ∷ (row (PRINT_REST ∷ []) ∷ row (SWITCH_WORD ∷ []) ∷ [])  -- switch_item_17
    ∷ (row (RETURN_REST ∷ []) ∷ row (SWITCH_WORD ∷ []) ∷ [])  -- switch_item_18
    ∷ (row (END ∷ []) ∷ row (SWITCH_WORD ∷ []) ∷ [])  -- switch_item_19
    ∷ (row (JUMP_REST ∷ []) ∷ row (DO_OUTER_WORD ∷ DO_NAME ∷ VALUES ∷ []) ∷ [])  -- switch_item_20
    ∷ (row (GIVE_REST ∷ []) ∷ row (SWITCH_WORD ∷ []) ∷ [])  -- switch_item_21
    ∷ (row (MOVE_REST ∷ []) ∷ row (SWITCH_WORD ∷ []) ∷ [])  -- switch_item_22
    ∷ (row (WORD_REMOVE ∷ []) ∷ row (WORD_SPACES ∷ []) ∷ [])  -- switch_item_23
    ∷ (row (OF_EXPRESSION ∷ []) ∷ row (SWITCH_WORD ∷ []) ∷ [])  -- switch_item_24
    ∷ (row (STRING_REST ∷ []) ∷ row (SWITCH_WORD ∷ []) ∷ [])  -- switch_item_25
    ∷ (row (NOTTO ∷ END ∷ []) ∷ row (SWITCH_WORD ∷ []) ∷ [])  -- switch_item_26
    ∷ (row (DO_OUTER_WORD ∷ DO_NAME ∷ SWITCH_WORD_1 ∷ []) ∷ [])  -- switch_word
    ∷ (row (RANGE ∷ VALUES ∷ []) ∷ row (VALUES ∷ []) ∷ [])  -- switch_word_1
    ∷ []

abbrev pub rules_4 : List (List (Row Action))
rules_4 =
    (row (INNER_OPERATOR ∷ DO_NEGATE ∷ AFTER_UNARY ∷ STATEMENT_END ∷ []) ∷ row (DO_NEGATE ∷ MINUS_MORE_1 ∷ []) ∷ [])  -- minus_more
    ∷ (row (CASE_END ∷ []) ∷ row (END ∷ []) ∷ row (OUTER_MORE ∷ []) ∷ [])  -- minus_more_1
    ∷ (row (INNER_OPERATOR ∷ AFTER_UNARY ∷ STATEMENT_END ∷ []) ∷ row (OUTER_MORE ∷ []) ∷ [])  -- switch_more
    ∷ (row (OUTER_OPERATOR ∷ STATEMENT_END ∷ []) ∷ row (RANGE ∷ VALUES ∷ []) ∷ row (COMMA ∷ SWITCH_NEXT ∷ []) ∷ [])  -- outer_more
    ∷ (row (PRIM ∷ SWITCH_FOLLOWING ∷ []) ∷ row (MINUS ∷ SWITCH_NEXT_1 ∷ []) ∷  -- switch_next
    row (PREFIXED ∷ DO_COMMA ∷ STATEMENT_END ∷ []) ∷ [])
    ∷ (row (PRIM ∷ MINUS_FOLLOWING ∷ []) ∷ row (SWITCH_NEXT_2 ∷ DO_NEGATE ∷ AFTER_UNARY ∷ DO_COMMA ∷ STATEMENT_END ∷ []) ∷  -- switch_next_1
    [])
    ∷ (row (MINUS ∷ NEG ∷ DO_NEGATE ∷ []) ∷ row (STEP_PREFIX ∷ []) ∷ [])  -- switch_next_2
    ∷ (row (INNER_OPERATOR ∷ DO_NEGATE ∷ AFTER_UNARY ∷ DO_COMMA ∷ STATEMENT_END ∷ []) ∷  -- minus_following
    row (DO_NEGATE ∷ OUTER_FOLLOWING ∷ []) ∷ [])
    ∷ (row (INNER_OPERATOR ∷ AFTER_UNARY ∷ DO_COMMA ∷ STATEMENT_END ∷ []) ∷ row (OUTER_FOLLOWING ∷ []) ∷ [])  -- switch_following
    ∷ (row (OUTER_OPERATOR ∷ DO_COMMA ∷ STATEMENT_END ∷ []) ∷ row (RANGE ∷ DO_COMMA ∷ VALUES ∷ []) ∷  -- outer_following
    row (DO_COMMA ∷ OUTER_FOLLOWING_1 ∷ []) ∷ [])
    ∷ (row (CASE_END ∷ []) ∷ row (COMMA ∷ SWITCH_NEXT ∷ []) ∷ row (END ∷ []) ∷ [])  -- outer_following_1
    ∷ (row (DO_BEGIN ∷ DO_OUTER ∷ EXPRESSION ∷ DO_HOLD ∷ SEMICOLON ∷ []) ∷ [])  -- alone_expression
    ∷ (row (DO_BEGIN ∷ DO_OUTER ∷ ASSIGN ∷ DO_HOLD ∷ SEMICOLON ∷ []) ∷ [])  -- alone_constant
    ∷ (row (DO_BEGIN ∷ AT ∷ NAME ∷ ASSEMBLY ∷ END ∷ []) ∷ [])  -- alone_line
    ∷ (row (DO_ROUTINE ∷ OPEN_BRACKET ∷ NAME ∷ DIRECTIVE_1 ∷ DO_END_LOCALS ∷ SEMICOLON ∷ []) ∷ [])  -- alone_header
    ∷ (row (DO_END_ROUTINE ∷ CLOSE_BRACKET ∷ SEMICOLON ∷ []) ∷ [])  -- alone_close
    ∷ []
