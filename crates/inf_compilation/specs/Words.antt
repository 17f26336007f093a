-- Small words of units.
use Rattle.inf_scanner.specs.declared.tokens.Place.{Place}

-- Place before the first unit, where nothing was laid.
abbrev pub nowhere : Place
nowhere = record { file = 0; line = 0 }
