use Rattle.std.proofs.Common.{◌≡◌, ◌≤◌, drop, length}
use Rattle.std.specs.Str.{str_eq_ignore_ascii_case}
use Rattle.inf_names.proofs.locals.are_same_bytes.Given as goal

-- the bytes from here on are the same exactly if all are
abbrev pub invariant-loop-i : goal.invariant-loop-i
invariant-loop-i l = record {
  end : l.i-end ≡ length l.name;
  within : l.i ≤ length l.name;
  left : str_eq_ignore_ascii_case (drop l.i l.name) (drop l.i l.other) ≡ str_eq_ignore_ascii_case l.name l.other;
}
