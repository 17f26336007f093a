-- The names of the opcodes (Z-Machine Standard 1.1, section 14).
use Rattle.std.specs.Prelude.{ℕ, Bool, List, [], ◌∷◌, Option, find, codes}
use Rattle.std.specs.Str.{str_eq_ignore_ascii_case}
use Rattle.inf_opcode.specs.declared.opcodes.Opcode.{Opcode}

abbrev pub name_of : Opcode → List ℕ
name_of Opcode.Je = codes "je"
name_of Opcode.Jl = codes "jl"
name_of Opcode.Jg = codes "jg"
name_of Opcode.DecChk = codes "dec_chk"
name_of Opcode.IncChk = codes "inc_chk"
name_of Opcode.Jin = codes "jin"
name_of Opcode.Test = codes "test"
name_of Opcode.Or = codes "or"
name_of Opcode.And = codes "and"
name_of Opcode.TestAttr = codes "test_attr"
name_of Opcode.SetAttr = codes "set_attr"
name_of Opcode.ClearAttr = codes "clear_attr"
name_of Opcode.Store = codes "store"
name_of Opcode.InsertObj = codes "insert_obj"
name_of Opcode.Loadw = codes "loadw"
name_of Opcode.Loadb = codes "loadb"
name_of Opcode.GetProp = codes "get_prop"
name_of Opcode.GetPropAddr = codes "get_prop_addr"
name_of Opcode.GetNextProp = codes "get_next_prop"
name_of Opcode.Add = codes "add"
name_of Opcode.Sub = codes "sub"
name_of Opcode.Mul = codes "mul"
name_of Opcode.Div = codes "div"
name_of Opcode.Mod = codes "mod"
name_of Opcode.Call2s = codes "call_2s"
name_of Opcode.Call2n = codes "call_2n"
name_of Opcode.SetColour = codes "set_colour"
name_of Opcode.Throw = codes "throw"
name_of Opcode.Jz = codes "jz"
name_of Opcode.GetSibling = codes "get_sibling"
name_of Opcode.GetChild = codes "get_child"
name_of Opcode.GetParent = codes "get_parent"
name_of Opcode.GetPropLen = codes "get_prop_len"
name_of Opcode.Inc = codes "inc"
name_of Opcode.Dec = codes "dec"
name_of Opcode.PrintAddr = codes "print_addr"
name_of Opcode.Call1s = codes "call_1s"
name_of Opcode.RemoveObj = codes "remove_obj"
name_of Opcode.PrintObj = codes "print_obj"
name_of Opcode.Ret = codes "ret"
name_of Opcode.Jump = codes "jump"
name_of Opcode.PrintPaddr = codes "print_paddr"
name_of Opcode.Load = codes "load"
name_of Opcode.Call1n = codes "call_1n"
name_of Opcode.Rtrue = codes "rtrue"
name_of Opcode.Rfalse = codes "rfalse"
name_of Opcode.Print = codes "print"
name_of Opcode.PrintRet = codes "print_ret"
name_of Opcode.Nop = codes "nop"
name_of Opcode.Restart = codes "restart"
name_of Opcode.RetPopped = codes "ret_popped"
name_of Opcode.Catch = codes "catch"
name_of Opcode.Quit = codes "quit"
name_of Opcode.NewLine = codes "new_line"
name_of Opcode.Verify = codes "verify"
name_of Opcode.Piracy = codes "piracy"
name_of Opcode.CallVs = codes "call_vs"
name_of Opcode.Storew = codes "storew"
name_of Opcode.Storeb = codes "storeb"
name_of Opcode.PutProp = codes "put_prop"
name_of Opcode.Aread = codes "aread"
name_of Opcode.PrintChar = codes "print_char"
name_of Opcode.PrintNum = codes "print_num"
name_of Opcode.Random = codes "random"
name_of Opcode.Push = codes "push"
name_of Opcode.Pull = codes "pull"
name_of Opcode.SplitWindow = codes "split_window"
name_of Opcode.SetWindow = codes "set_window"
name_of Opcode.CallVs2 = codes "call_vs2"
name_of Opcode.EraseWindow = codes "erase_window"
name_of Opcode.EraseLine = codes "erase_line"
name_of Opcode.SetCursor = codes "set_cursor"
name_of Opcode.GetCursor = codes "get_cursor"
name_of Opcode.SetTextStyle = codes "set_text_style"
name_of Opcode.BufferMode = codes "buffer_mode"
name_of Opcode.OutputStream = codes "output_stream"
name_of Opcode.InputStream = codes "input_stream"
name_of Opcode.SoundEffect = codes "sound_effect"
name_of Opcode.ReadChar = codes "read_char"
name_of Opcode.ScanTable = codes "scan_table"
name_of Opcode.Not = codes "not"
name_of Opcode.CallVn = codes "call_vn"
name_of Opcode.CallVn2 = codes "call_vn2"
name_of Opcode.Tokenise = codes "tokenise"
name_of Opcode.EncodeText = codes "encode_text"
name_of Opcode.CopyTable = codes "copy_table"
name_of Opcode.PrintTable = codes "print_table"
name_of Opcode.CheckArgCount = codes "check_arg_count"
name_of Opcode.Save = codes "save"
name_of Opcode.Restore = codes "restore"
name_of Opcode.LogShift = codes "log_shift"
name_of Opcode.ArtShift = codes "art_shift"
name_of Opcode.SetFont = codes "set_font"
name_of Opcode.SaveUndo = codes "save_undo"
name_of Opcode.RestoreUndo = codes "restore_undo"
name_of Opcode.PrintUnicode = codes "print_unicode"
name_of Opcode.CheckUnicode = codes "check_unicode"
name_of Opcode.SetTrueColour = codes "set_true_colour"

-- The opcodes, by their classes and numbers.
unfoldable pub opcodes : List Opcode
opcodes = Opcode.Je ∷ Opcode.Jl ∷ Opcode.Jg ∷ Opcode.DecChk ∷ Opcode.IncChk ∷ Opcode.Jin ∷ Opcode.Test ∷ Opcode.Or ∷ Opcode.And ∷
    Opcode.TestAttr ∷ Opcode.SetAttr ∷ Opcode.ClearAttr ∷ Opcode.Store ∷ Opcode.InsertObj ∷ Opcode.Loadw ∷ Opcode.Loadb ∷
    Opcode.GetProp ∷ Opcode.GetPropAddr ∷ Opcode.GetNextProp ∷ Opcode.Add ∷ Opcode.Sub ∷ Opcode.Mul ∷ Opcode.Div ∷ Opcode.Mod ∷
    Opcode.Call2s ∷ Opcode.Call2n ∷ Opcode.SetColour ∷ Opcode.Throw ∷ Opcode.Jz ∷ Opcode.GetSibling ∷ Opcode.GetChild ∷
    Opcode.GetParent ∷ Opcode.GetPropLen ∷ Opcode.Inc ∷ Opcode.Dec ∷ Opcode.PrintAddr ∷ Opcode.Call1s ∷ Opcode.RemoveObj ∷ Opcode.PrintObj ∷
    Opcode.Ret ∷ Opcode.Jump ∷ Opcode.PrintPaddr ∷ Opcode.Load ∷ Opcode.Call1n ∷ Opcode.Rtrue ∷
    Opcode.Rfalse ∷ Opcode.Print ∷ Opcode.PrintRet ∷ Opcode.Nop ∷ Opcode.Restart ∷ Opcode.RetPopped ∷ Opcode.Catch ∷ Opcode.Quit ∷
    Opcode.NewLine ∷ Opcode.Verify ∷ Opcode.Piracy ∷ Opcode.CallVs ∷ Opcode.Storew ∷ Opcode.Storeb ∷ Opcode.PutProp ∷
    Opcode.Aread ∷ Opcode.PrintChar ∷ Opcode.PrintNum ∷ Opcode.Random ∷ Opcode.Push ∷ Opcode.Pull ∷ Opcode.SplitWindow ∷ Opcode.SetWindow ∷
    Opcode.CallVs2 ∷ Opcode.EraseWindow ∷ Opcode.EraseLine ∷ Opcode.SetCursor ∷
    Opcode.GetCursor ∷ Opcode.SetTextStyle ∷ Opcode.BufferMode ∷ Opcode.OutputStream ∷ Opcode.InputStream ∷ Opcode.SoundEffect ∷
    Opcode.ReadChar ∷ Opcode.ScanTable ∷ Opcode.Not ∷ Opcode.CallVn ∷ Opcode.CallVn2 ∷
    Opcode.Tokenise ∷ Opcode.EncodeText ∷ Opcode.CopyTable ∷ Opcode.PrintTable ∷ Opcode.CheckArgCount ∷ Opcode.Save ∷ Opcode.Restore ∷
    Opcode.LogShift ∷ Opcode.ArtShift ∷ Opcode.SetFont ∷ Opcode.SaveUndo ∷
    Opcode.RestoreUndo ∷ Opcode.PrintUnicode ∷ Opcode.CheckUnicode ∷ Opcode.SetTrueColour ∷ []

-- Tells whether a name is that of an opcode, in any case.
abbrev pub has_name : List ℕ → Opcode → Bool
has_name name opcode = str_eq_ignore_ascii_case (name_of opcode) name

-- The opcode of a name, if one has it.
abbrev pub opcode_named : List ℕ → Option Opcode
opcode_named name = find (has_name name) opcodes
