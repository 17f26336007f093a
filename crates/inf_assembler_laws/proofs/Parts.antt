-- The bytes of closed cells, part by part.
use Rattle.std.proofs.Common.{◌≡◌, ℕ, ◌+◌, ◌-◌, ◌*◌, ◌/◌, ◌%◌, ◌<◌, ◌≤◌, Bool, true, false, leb, eqb, cond, List, [], ◌∷◌, ◌++◌, length}
use Rattle.std.proofs.Common.{map, Option, Some, None, is_some, refl, sym, ◌∙◌, ap, arith, append-nil, append_assoc, length-append}
use Rattle.std.proofs.lemmas.Bool.Decides.{nat_tests}
use Rattle.std.specs.List.{flat_map}
use Rattle.inf_area.specs.Words.{word}
use Rattle.inf_opcode.specs.{declared.cells.Special.Special, declared.instructions.Branch.Branch}
use Rattle.inf_opcode.specs.{declared.instructions.Destination.Destination, declared.instructions.Operand.Operand}
use Rattle.inf_opcode.specs.Cells.{Cell, Plain, Of, plain, special_size}
use Rattle.inf_opcode.specs.Instructions.{type_code, operand_cells, store_cells, has_no_offset, fits_jump}
use Rattle.inf_assembler.specs.Places.{Places, with_some, joined, is_short_to, size_at, offset_to, branch_offset, branch_bytes}
use Rattle.inf_assembler.specs.Places.{closed_special, closed_bytes}
use Rattle.inf_assembler.proofs.{Finishing.with_some_of, Passes.closed_size}
use Rattle.inf_assembler_laws.specs.Decoding.{◌>>=◌, Given, Word, Place, GoesTo, place_by, place_in, aim_at, word_given, operand_at}
use Rattle.inf_assembler_laws.specs.Decoding.{operands_at, store_at, branch_at, given, aim_of, aimed}
use Rattle.inf_assembler_laws.proofs.Offsets.{near_of, jump_place, branch_place, branch_below, aim_from}
use Rattle.inf_assembler_laws.proofs.Placed.{cells_size, long_size, long_size-of}

-- bytes behind bytes that are there
pub record Joined (first second : Option (List ℕ)) (bytes : List ℕ) : Type 0 where
  pub front : List ℕ
  pub back : List ℕ
  pub is_front : first ≡ Some front
  pub is_back : second ≡ Some back
  pub whole : bytes ≡ front ++ back

pub joined_of : (first second : Option (List ℕ)) (bytes : List ℕ) → joined first second ≡ Some bytes → Joined first second bytes
joined_of None second bytes e = cc
joined_of (Some front) None bytes e = cc
joined_of (Some front) (Some back) bytes e = record { front = front; back = back; is_front = refl; is_back = refl; whole = cc }

-- the bytes of two parts
pub record Split (long places : Places) (old new : ℕ) (xs ys : List Cell) (bytes : List ℕ) : Type 0 where
  pub front : List ℕ
  pub back : List ℕ
  pub is_front : closed_bytes long places old new xs ≡ Some front
  pub is_back : closed_bytes long places (old + long_size xs) (new + length front) ys ≡ Some back
  pub whole : bytes ≡ front ++ back
  pub size : length front ≡ cells_size long old xs

pub split : (long places : Places) (old new : ℕ) (xs ys : List Cell) (bytes : List ℕ) →
    closed_bytes long places old new (xs ++ ys) ≡ Some bytes → Split long places old new xs ys bytes
split long places old new [] ys bytes e =
    let f : old + 0 ≡ old = omega arith in
    let g : new + 0 ≡ new = omega arith in
    record {
      front = [];
      back = bytes;
      is_front = refl;
      is_back = ap (λ n. closed_bytes long places n (new + 0) ys) f ∙ ap (λ n. closed_bytes long places old n ys) g ∙ e;
      whole = refl;
      size = refl;
    }
split long places old new ((Plain byte) ∷ xs) ys bytes e =
    let made = with_some_of (λ rest. byte ∷ rest) (closed_bytes long places (old + 1) (new + 1) (xs ++ ys)) bytes e in
    let s = split long places (old + 1) (new + 1) xs ys made.0 made.1 in
    let f : old + long_size (Plain byte ∷ xs) ≡ old + 1 + long_size xs = omega arith in
    let g : new + length (byte ∷ s.front) ≡ new + 1 + length s.front = omega arith in
    record {
      front = byte ∷ s.front;
      back = s.back;
      is_front = ap (with_some (λ rest. byte ∷ rest)) s.is_front;
      is_back = ap (λ n. closed_bytes long places n (new + length (byte ∷ s.front)) ys) f
          ∙ ap (λ n. closed_bytes long places (old + 1 + long_size xs) n ys) g ∙ s.is_back;
      whole = made.2 ∙ ap (λ rest. byte ∷ rest) s.whole;
      size = omega (arith, s.size);
    }
split long places old new ((Of what) ∷ xs) ys bytes e =
    let next = old + special_size what in
    let made =
    joined_of (closed_special long places old new what) (closed_bytes long places next (new + size_at long old what) (xs ++ ys)) bytes e in
    let s = split long places next (new + size_at long old what) xs ys made.back made.is_back in
    let here = closed_size long places old new what made.front made.is_front in
    let f : old + long_size (Of what ∷ xs) ≡ next + long_size xs = omega (arith, long_size-of what xs) in
    let g : new + length (made.front ++ s.front) ≡ new + size_at long old what + length s.front =
    omega (arith, here, length-append made.front s.front) in
    record {
      front = made.front ++ s.front;
      back = s.back;
      is_front = ap (λ o. joined o (closed_bytes long places next (new + size_at long old what) xs)) made.is_front
          ∙ ap (joined (Some made.front)) s.is_front;
      is_back = ap (λ n. closed_bytes long places n (new + length (made.front ++ s.front)) ys) f
          ∙ ap (λ n. closed_bytes long places (next + long_size xs) n ys) g ∙ s.is_back;
      whole = made.whole ∙ ap (λ rest. made.front ++ rest) s.whole ∙ sym (append_assoc made.front s.front s.back);
      size = omega (arith, length-append made.front s.front, here, s.size);
    }

-- plain bytes are themselves
pub closed-plain : (long places : Places) (old new : ℕ) (bytes : List ℕ) → closed_bytes long places old new (plain bytes) ≡ Some bytes
closed-plain long places old new [] = refl
closed-plain long places old new (byte ∷ bytes) = ap (with_some (λ rest. byte ∷ rest)) (closed-plain long places (old + 1) (new + 1) bytes)

pub some_same : {A : Type 0} (x y : A) → Some x ≡ Some y → x ≡ y
some_same x y e = cc

-- an operand that an opcode takes: the offset to a label where it jumps, and no such offset where it does not
abbrev Suits : Bool → Operand → Type 0
Suits jumps (Operand.Large number) = jumps ≡ false
Suits jumps (Operand.Small number) = Unit {0}
Suits jumps (Operand.Variable number) = Unit {0}
Suits jumps (Operand.Later target) = jumps ≡ false
Suits jumps (Operand.Offset label) = jumps ≡ true

abbrev AllSuit : Bool → List Operand → Type 0
AllSuit jumps [] = Unit {0}
AllSuit jumps (operand ∷ others) = Suits jumps operand × AllSuit jumps others

suit_false : (operands : List Operand) → has_no_offset operands ≡ true → AllSuit false operands
suit_false [] e = tt
suit_false ((Operand.Large number) ∷ others) e = (refl, suit_false others e)
suit_false ((Operand.Small number) ∷ others) e = (tt, suit_false others e)
suit_false ((Operand.Variable number) ∷ others) e = (tt, suit_false others e)
suit_false ((Operand.Later target) ∷ others) e = (refl, suit_false others e)
suit_false ((Operand.Offset label) ∷ others) e = cc

pub all_suit : (jumps : Bool) (operands : List Operand) → fits_jump jumps operands ≡ true → AllSuit jumps operands
all_suit false operands e = suit_false operands e
all_suit true [] e = cc
all_suit true ((Operand.Large number) ∷ others) e = cc
all_suit true ((Operand.Small number) ∷ others) e = cc
all_suit true ((Operand.Variable number) ∷ others) e = cc
all_suit true ((Operand.Later target) ∷ others) e = cc
all_suit true ((Operand.Offset label) ∷ []) e = (refl, tt)
all_suit true ((Operand.Offset label) ∷ next ∷ others) e = cc

-- the place of a jump
jump_by : (place : Option ℕ) (end offset : ℕ) → offset_to 32768 end place ≡ Some offset → place_by 32768 end offset ≡ place_in place
jump_by None end offset e = cc
jump_by (Some place) end offset e = jump_place end place offset (near_of 32768 end place offset e)

two_bytes : (number : ℕ) → 256 * (number / 256) + number % 256 ≡ number
two_bytes number = omega arith

-- the bytes of an operand are read back as the operand
operand_read : (long places : Places) (old new total : ℕ) (jumps : Bool) (operand : Operand) (bytes rest : List ℕ) → Suits jumps operand →
    closed_bytes long places old new (operand_cells operand) ≡ Some bytes
    → total ≡ new + length bytes + length rest → operand_at total jumps (type_code operand) (bytes ++ rest) ≡ Some
    (given places operand, rest)
operand_read long places old new total jumps (Operand.Large number) bytes rest suits e t =
    let same : bytes ≡ word number = some_same bytes (word number) (sym e) in
    ap (λ b. operand_at total jumps 0 (b ++ rest)) same
    ∙ ap (λ j. Some (word_given j (total - length rest) (256 * (number / 256) + number % 256), rest)) suits
    ∙ ap (λ n. Some (Word n, rest)) (two_bytes number)
operand_read long places old new total jumps (Operand.Small number) bytes rest suits e t =
    let same : bytes ≡ number ∷ [] = some_same bytes (number ∷ []) (sym e) in ap (λ b. operand_at total jumps 1 (b ++ rest)) same
operand_read long places old new total jumps (Operand.Variable number) bytes rest suits e t =
    let same : bytes ≡ number ∷ [] = some_same bytes (number ∷ []) (sym e) in ap (λ b. operand_at total jumps 2 (b ++ rest)) same
operand_read long places old new total jumps (Operand.Later target) bytes rest suits e t =
    let same : bytes ≡ 0 ∷ 0 ∷ [] = some_same bytes (0 ∷ 0 ∷ []) (sym e) in
    ap (λ b. operand_at total jumps 0 (b ++ rest)) same
    ∙ ap (λ j. Some (word_given j (total - length rest) 0, rest)) suits
operand_read long places old new total jumps (Operand.Offset label) bytes rest suits e t =
    let made = joined_of (with_some word (offset_to 32768 (new + 2) (places label.number))) (Some []) bytes e in
    let offset = with_some_of word (offset_to 32768 (new + 2) (places label.number)) made.front made.is_front in
    let number = offset.0 in
    let none : made.back ≡ [] = some_same made.back [] (sym made.is_back) in
    let same : bytes ≡ word number = made.whole ∙ ap (λ b. made.front ++ b) none ∙ append-nil made.front ∙ offset.2 in
    let two : length bytes ≡ 2 = ap length same in
    let end : total - length rest ≡ new + 2 = omega (arith, t, two) in
    ap (λ b. operand_at total jumps 0 (b ++ rest)) same
    ∙ ap (λ j. Some (word_given j (total - length rest) (256 * (number / 256) + number % 256), rest)) suits
    ∙ ap (λ n. Some (Place (place_by 32768 (total - length rest) n), rest)) (two_bytes number)
    ∙ ap (λ n. Some (Place (place_by 32768 n number), rest)) end
    ∙ ap (λ n. Some (Place n, rest)) (jump_by (places label.number) (new + 2) number offset.1)

pub operands_read : (long places : Places) (old new total : ℕ) (jumps : Bool) (operands : List Operand) (bytes rest : List ℕ) →
    AllSuit jumps operands
    → closed_bytes long places old new (flat_map operand_cells operands) ≡ Some bytes → total ≡ new + length bytes + length rest
    → operands_at total jumps (map type_code operands) (bytes ++ rest) ≡ Some (map (given places) operands, rest)
operands_read long places old new total jumps [] bytes rest suit e t =
    let same : bytes ≡ [] = some_same bytes [] (sym e) in ap (λ b. operands_at total jumps [] (b ++ rest)) same
operands_read long places old new total jumps (operand ∷ others) bytes rest suit e t =
    let s = split long places old new (operand_cells operand) (flat_map operand_cells others) bytes e in
    let behind = s.back ++ rest in
    let length_all : length bytes ≡ length s.front + length s.back = ap length s.whole ∙ length-append s.front s.back in
    let length_behind : length behind ≡ length s.back + length rest = length-append s.back rest in
    let types = map type_code others in
    let next : Given × List ℕ → Option (List Given × List ℕ) =
    λ first. operands_at total jumps types first.1 >>= λ more. Some (first.0 ∷ more.0, more.1) in
    ap (λ b. operands_at total jumps (type_code operand ∷ types) (b ++ rest)) s.whole
    ∙ ap (operands_at total jumps (type_code operand ∷ types)) (append_assoc s.front s.back rest)
    ∙ ap (λ read. read >>= next) (operand_read long places old new total jumps operand s.front behind suit.0 s.is_front
    (omega (arith, t, length_all, length_behind)))
    ∙ ap (λ read. read >>= λ more. Some (given places operand ∷ more.0, more.1))
    (operands_read long places (old + long_size (operand_cells operand)) (new + length s.front) total jumps others s.back rest suit.1
    s.is_back (omega (arith, t, length_all)))

-- the bytes of a store variable, or of none
abbrev pub store_bytes : Option ℕ → List ℕ
store_bytes None = []
store_bytes (Some number) = number ∷ []

pub closed-store : (long places : Places) (old new : ℕ) (store : Option ℕ) →
    closed_bytes long places old new (store_cells store) ≡ Some (store_bytes store)
closed-store long places old new None = refl
closed-store long places old new (Some number) = refl

pub store_read : (store : Option ℕ) (rest : List ℕ) → store_at (is_some store) (store_bytes store ++ rest) ≡ Some (store, rest)
store_read None rest = refl
store_read (Some number) rest = refl

-- the bytes of a branch are read back as the branch
branch_bytes_read : (short sense : Bool) (offset end total : ℕ) (rest : List ℕ) → (short ≡ true → offset < 64) → offset < 16384 →
    total - length rest ≡ end
    → branch_at total true (branch_bytes short sense offset ++ rest) ≡ Some (Some (record { sense = sense; aim = aim_at end offset }), rest)
branch_bytes_read true true offset end total rest small fits e =
    let less = small refl in
    let first = 128 + 64 + offset % 64 in
    let one : eqb (first / 64 % 2) 1 ≡ true = grind (arith, nat_tests, less) in
    let sense : leb 128 first ≡ true = grind (arith, nat_tests) in
    let whole : first % 64 ≡ offset = omega arith in
    rw (one, sense, whole, e)
branch_bytes_read true false offset end total rest small fits e =
    let less = small refl in
    let first = 0 + 64 + offset % 64 in
    let one : eqb (first / 64 % 2) 1 ≡ true = grind (arith, nat_tests, less) in
    let sense : leb 128 first ≡ false = grind (arith, nat_tests) in
    let whole : first % 64 ≡ offset = omega arith in
    rw (one, sense, whole, e)
branch_bytes_read false true offset end total rest small fits e =
    let first = 128 + offset / 256 in
    let two : eqb (first / 64 % 2) 1 ≡ false = grind (arith, nat_tests) in
    let sense : leb 128 first ≡ true = grind (arith, nat_tests) in
    let whole : 256 * (first % 64) + offset % 256 ≡ offset = omega arith in
    rw (two, sense, whole, e)
branch_bytes_read false false offset end total rest small fits e =
    let first = 0 + offset / 256 in
    let two : eqb (first / 64 % 2) 1 ≡ false = grind (arith, nat_tests) in
    let sense : leb 128 first ≡ false = grind (arith, nat_tests) in
    let whole : 256 * (first % 64) + offset % 256 ≡ offset = omega arith in
    rw (two, sense, whole, e)

-- The offset of a branch to a label is none of those that return, and has 6 bits where the branch is short.
pub record IsClear (long places : Places) (old new : ℕ) (target : Destination) (offset : ℕ) : Type 0 where
  pub large : 2 ≤ offset
  pub small : is_short_to long old target ≡ true → offset < 64

abbrev pub Clear : Places → Places → ℕ → ℕ → Destination → Type 0
Clear long places old new (Destination.To label) =
    (offset : ℕ) → offset_to 8192 (new + (cond (is_short_to long old (Destination.To label)) 1 2))
    (places label.number) ≡ Some offset → IsClear long places old new (Destination.To label) offset
Clear long places old new Destination.ReturnFalse = Unit {0}
Clear long places old new Destination.ReturnTrue = Unit {0}

aim_by : (place : Option ℕ) (end offset : ℕ) → offset_to 8192 end place ≡ Some offset → 2 ≤ offset →
    (offset < 16384) × (aim_at end offset ≡ GoesTo (place_in place))
aim_by None end offset e large = cc
aim_by (Some place) end offset e large =
    let near = near_of 8192 end place offset e in
    (branch_below end place offset near, aim_from end offset large ∙ ap GoesTo (branch_place end place offset near))

target_read : (long places : Places) (old new total : ℕ) (sense : Bool) (target : Destination) (offset : ℕ) (rest : List ℕ) →
    Clear long places old new target
    → branch_offset places (new + (cond (is_short_to long old target) 1 2)) target ≡ Some offset → total - length rest ≡ new +
    (cond (is_short_to long old target) 1 2)
    → branch_at total true (branch_bytes (is_short_to long old target) sense offset ++ rest) ≡ Some
    (Some (record { sense = sense; aim = aim_of places target }), rest)
target_read long places old new total sense (Destination.To label) offset rest clear e t =
    let short = is_short_to long old (Destination.To label) in
    let end = new + (cond short 1 2) in
    let known = clear offset e in
    let aim = aim_by (places label.number) end offset e known.large in
    branch_bytes_read short sense offset end total rest known.small aim.0 t
    ∙ ap (λ a. Some (Some (record { sense = sense; aim = a }), rest)) aim.1
target_read long places old new total sense Destination.ReturnFalse offset rest clear e t =
    let same : offset ≡ 0 = some_same offset 0 (sym e) in
    branch_bytes_read false sense offset (new + 2) total rest (λ short. cc) (omega (arith, same)) t
    ∙ ap (λ o. Some (Some (record { sense = sense; aim = aim_at (new + 2) o }), rest)) same
target_read long places old new total sense Destination.ReturnTrue offset rest clear e t =
    let same : offset ≡ 1 = some_same offset 1 (sym e) in
    branch_bytes_read false sense offset (new + 2) total rest (λ short. cc) (omega (arith, same)) t
    ∙ ap (λ o. Some (Some (record { sense = sense; aim = aim_at (new + 2) o }), rest)) same

length-branch : (short sense : Bool) (offset : ℕ) → length (branch_bytes short sense offset) ≡ cond short 1 2
length-branch true sense offset = refl
length-branch false sense offset = refl

pub branch_read : (long places : Places) (old new total : ℕ) (branch : Branch) (bytes rest : List ℕ) →
    Clear long places old new branch.target
    → closed_bytes long places old new (Of (Special.Branches branch) ∷ []) ≡ Some bytes → total ≡ new + length bytes + length rest
    → branch_at total true (bytes ++ rest) ≡ Some (Some (aimed places branch), rest)
branch_read long places old new total branch bytes rest clear e t =
    let short = is_short_to long old branch.target in
    let end = new + (cond short 1 2) in
    let made = joined_of (with_some (branch_bytes short branch.sense) (branch_offset places end branch.target)) (Some []) bytes e in
    let offset = with_some_of (branch_bytes short branch.sense) (branch_offset places end branch.target) made.front made.is_front in
    let none : made.back ≡ [] = some_same made.back [] (sym made.is_back) in
    let same : bytes ≡ branch_bytes short branch.sense offset.0 =
    made.whole ∙ ap (λ b. made.front ++ b) none ∙ append-nil made.front ∙ offset.2 in
    let size : length bytes ≡ cond short 1 2 = ap length same ∙ length-branch short branch.sense offset.0 in
    let behind : total - length rest ≡ end = omega (arith, t, size) in
    ap (λ b. branch_at total true (b ++ rest)) same
    ∙ target_read long places old new total branch.sense branch.target offset.0 rest clear offset.1 behind
