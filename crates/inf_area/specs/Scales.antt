-- The two versions that stories have. Z-Machine Standard 1.1, sections 1.1.4 and 1.2.3.
use Rattle.std.specs.Prelude.{ℕ, ◌+◌, ◌-◌, ◌%◌}
use Rattle.inf_area.specs.declared.scale.Scale.{Scale}

-- the number that a packed address is multiplied by
abbrev pub scale_number : Scale → ℕ
scale_number Scale.Four = 4
scale_number Scale.Eight = 8

-- the version of the Z-machine
abbrev pub version : Scale → ℕ
version Scale.Four = 5
version Scale.Eight = 8

-- the most bytes of a story
abbrev pub most_bytes : Scale → ℕ
most_bytes Scale.Four = 262144
most_bytes Scale.Eight = 524288

-- the number of bytes between a place and the next that has a packed address
abbrev pub gap : Scale → ℕ → ℕ
gap scale at = let n = scale_number scale in (n - at % n) % n

-- the next place that has a packed address
abbrev pub aligned : Scale → ℕ → ℕ
aligned scale at = at + gap scale at
