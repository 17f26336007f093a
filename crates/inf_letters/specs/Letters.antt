-- The letters of a command, of the head of a source and of `Switches`, and their choices, matter by matter (Inform Designer's
-- Manual, fourth edition, section 39).
use Rattle.std.specs.Prelude.{ℕ, ◌==◌, Bool, true, false, List, [], ◌∷◌, if◌then◌else◌, Option, Some, None, unwrap_or}
use Rattle.std.specs.Option.{option_or}
use Rattle.inf_characters.specs.declared.characters.CharSet.{CharSet}
use Rattle.inf_area.specs.declared.scale.Scale.{Scale}
use Rattle.inf_letters.specs.{declared.letters.Letters.Letters, declared.letters.Said.Said}

-- the choices of no letters
abbrev pub none_spoken : Letters
none_spoken = record { set = None; scale = None; warns = None; abbreviates = None; counts = None; ignores = None; debugs = None }

-- the choice of a letter by itself: of `e`, `s`, `w`, `i` and `D`
abbrev pub alone : ℕ → Option Said
alone b =
    if b == 101 then Some (Said.Abbreviates true)
    else if b == 115 then Some (Said.Counts true)
    else if b == 119 then Some (Said.Warns false)
    else if b == 105 then Some (Said.Ignores true)
    else if b == 68 then Some (Said.Debugs true)
    else None

-- the choice of a letter behind `~`: of the same letters, and of `S`
abbrev pub turned_off : ℕ → Option Said
turned_off b =
    if b == 101 then Some (Said.Abbreviates false)
    else if b == 115 then Some (Said.Counts false)
    else if b == 119 then Some (Said.Warns true)
    else if b == 105 then Some (Said.Ignores false)
    else if b == 68 then Some (Said.Debugs false)
    else if b == 83 then Some Said.Nothing
    else None

-- `v5` and `v8` by the digit
abbrev pub version_of : ℕ → Option Said
version_of b = if b == 53 then Some (Said.Scale Scale.Four) else if b == 56 then Some (Said.Scale Scale.Eight) else None

-- `C0` and `C1` by the digit
abbrev pub characters_of : ℕ → Option Said
characters_of b = if b == 48 then Some (Said.Set CharSet.Ascii) else if b == 49 then Some (Said.Set CharSet.Latin1) else None

-- the letters that come in pairs: behind `~`, `v`, `C` and `E`
abbrev pub paired : ℕ → ℕ → Option Said
paired b c =
    if b == 126 then turned_off c
    else if b == 118 then version_of c
    else if b == 67 then characters_of c
    else if b == 69 then (if c == 49 then Some Said.Nothing else None)
    else None

-- choices with one more, which is the last on its matter
abbrev pub spoken : Said → Letters → Letters
spoken (Said.Set set) l = record l { set = Some set }
spoken (Said.Scale scale) l = record l { scale = Some scale }
spoken (Said.Warns warns) l = record l { warns = Some warns }
spoken (Said.Abbreviates abbreviates) l = record l { abbreviates = Some abbreviates }
spoken (Said.Counts counts) l = record l { counts = Some counts }
spoken (Said.Ignores ignores) l = record l { ignores = Some ignores }
spoken (Said.Debugs debugs) l = record l { debugs = Some debugs }
spoken Said.Nothing l = l

-- the choices of the letters behind a choice, and none where that is unknown
abbrev pub followed : (Letters → Option Letters) → Letters → Option Said → Option Letters
followed next l None = None
followed next l (Some s) = next (spoken s l)

-- the first of two readings, or where it is unknown the second
abbrev pub either : Option Said → (Said → Option Letters) → Option Letters → Option Letters
either None first second = second
either (Some s) first second = first s

-- The choices of letters behind others, from left to right: each letter comes alone or is one of a pair. Where one is unknown,
-- there are none.
abbrev pub with_letters : List ℕ → Letters → Option Letters
with_letters [] l = Some l
with_letters (b ∷ []) l = followed (λ x. Some x) l (alone b)
with_letters (b ∷ c ∷ letters) l =
    either (alone b) (λ s. with_letters (c ∷ letters) (spoken s l)) (followed (with_letters letters) l (paired b c))

-- on each matter the choice of the first, or where they leave it open, that of the others
abbrev pub spoken_over : Letters → Letters → Letters
spoken_over l others = record {
  set = option_or l.set others.set;
  scale = option_or l.scale others.scale;
  warns = option_or l.warns others.warns;
  abbreviates = option_or l.abbreviates others.abbreviates;
  counts = option_or l.counts others.counts;
  ignores = option_or l.ignores others.ignores;
  debugs = option_or l.debugs others.debugs;
}

-- the character set of the sources
abbrev pub set_of : Letters → CharSet
set_of l = unwrap_or l.set CharSet.Latin1

-- the version of the story
abbrev pub scale_of : Letters → Scale
scale_of l = unwrap_or l.scale Scale.Four

-- whether warnings are shown
abbrev pub warns : Letters → Bool
warns l = unwrap_or l.warns true

-- whether texts are abbreviated
abbrev pub abbreviates : Letters → Bool
abbreviates l = unwrap_or l.abbreviates false

-- whether statistics are shown
abbrev pub counts : Letters → Bool
counts l = unwrap_or l.counts false

-- whether `Switches` chooses nothing
abbrev pub ignores : Letters → Bool
ignores l = unwrap_or l.ignores false

-- whether the language has the name `DEBUG`
abbrev pub debugs : Letters → Bool
debugs l = unwrap_or l.debugs false
