-- Limits that refusals name.
use Rattle.std.proofs.Common.{◌≡◌, refl, Option, Some, None}
use Rattle.inf_assembler.specs.{Routines.refusal, declared.routines.GrowFault.GrowFault, declared.routines.Limit.Limit}

-- A limit that a refusal names is one that would be passed.
pub is_passed : (full : Option Limit) (limit : Limit) → GrowFault.Full limit ≡ refusal full → full ≡ Some limit
is_passed None limit e = cc
is_passed (Some other) limit e = cc

-- Where want of memory is told, no limit would be passed.
pub none_where_memory : (full : Option Limit) → GrowFault.Memory ≡ refusal full → full ≡ None
none_where_memory None e = refl
none_where_memory (Some other) e = cc
