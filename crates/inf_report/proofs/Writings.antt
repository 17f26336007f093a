-- Writing one thing behind the other.
use Rattle.std.proofs.Common.{◌≡◌, ℕ, ◌≤◌, ◌++◌, List, length-append, append_assoc, Option, Result, Ok, Err, IsErr, sym, ap, ◌∙◌, inl, inr}
use Rattle.std.proofs.Common.{arith}
use Rattle.inf_devices.specs.{Files.Rose, Sinks.Takes}
use Rattle.inf_devices.proofs.TakenBytes.{Takes-append}
use Rattle.inf_report.specs.{Writing.TakesPart, Writing.Writes, declared.pieces.ReportFault.ReportFault}

-- a part of some bytes is one of these with more behind them
part_of_more : (old new : Option (List ℕ)) (xs ys : List ℕ) → TakesPart old new xs → TakesPart old new (xs ++ ys)
part_of_more old new xs ys part = record {
  front = part.front;
  rest = part.rest ++ ys;
  is_cut = ap (λ bs. bs ++ ys) part.is_cut ∙ append_assoc part.front part.rest ys;
  is_short = omega (arith, length-append part.rest ys, part.is_short);
  takes = part.takes;
}

-- a part of the bytes behind others that were taken is a part of both
part_behind : (old mid new : Option (List ℕ)) (xs ys : List ℕ) → Takes old mid xs → TakesPart mid new ys → TakesPart old new (xs ++ ys)
part_behind old mid new xs ys first part = record {
  front = xs ++ part.front;
  rest = part.rest;
  is_cut = ap (λ bs. xs ++ bs) part.is_cut ∙ sym (append_assoc xs part.front part.rest);
  is_short = part.is_short;
  takes = Takes-append old mid new xs part.front first part.takes;
}

rose_since : (a b c : ℕ) → a ≤ b → Rose b c → Rose a c
rose_since a b c le rose = elim rose [ inl less ↦ inl (omega (arith, le, less)) | inr last ↦ inr last ]

-- writing goes on behind what was written
pub goes_on : (old mid new : Option (List ℕ)) (a b c : ℕ) (xs ys : List ℕ) (r : Result Unit ReportFault) → Takes old mid xs × (b ≡ a) →
    Writes mid new b c ys r → Writes old new a c (xs ++ ys) r
goes_on old mid new a b c xs ys (Ok _) first next = (Takes-append old mid new xs ys first.0 next.0, next.1 ∙ first.1)
goes_on old mid new a b c xs ys (Err _) first next =
    (part_behind old mid new xs ys first.0 next.0, omega (arith, first.1, next.1), rose_since a b c (omega (arith, first.1)) next.2)

-- writing ends where the sink failed, whatever was to follow
pub stops : (old new : Option (List ℕ)) (a c : ℕ) (xs ys : List ℕ) (r : Result Unit ReportFault) → IsErr r →
    TakesPart old new xs × (a ≤ c) × Rose a c → Writes old new a c (xs ++ ys) r
stops old new a c xs ys (Ok _) is writes = cc
stops old new a c xs ys (Err _) is writes = (part_of_more old new xs ys writes.0, writes.1, writes.2)

-- a write that failed is one of some bytes
pub failed : (old new : Option (List ℕ)) (a c : ℕ) (xs : List ℕ) (r : Result Unit ReportFault) → IsErr r →
    TakesPart old new xs × (a ≤ c) × Rose a c → Writes old new a c xs r
failed old new a c xs (Ok _) is writes = cc
failed old new a c xs (Err _) is writes = writes

-- a write that failed is one of more bytes, too
pub with_more : (old new : Option (List ℕ)) (a c : ℕ) (xs ys : List ℕ) (r : Result Unit ReportFault) → IsErr r → Writes old new a c xs r →
    Writes old new a c (xs ++ ys) r
with_more old new a c xs ys (Ok _) is writes = cc
with_more old new a c xs ys (Err e) is writes = stops old new a c xs ys (Err e) is writes

-- two writes that went well are one
pub both_whole : (old mid new : Option (List ℕ)) (a b c : ℕ) (xs ys : List ℕ) → Takes old mid xs × (b ≡ a) → Takes mid new ys × (c ≡ b) →
    Takes old new (xs ++ ys) × (c ≡ a)
both_whole old mid new a b c xs ys first next = (Takes-append old mid new xs ys first.0 next.0, next.1 ∙ first.1)
