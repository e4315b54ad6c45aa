-- Draws by a linear congruence: the project's own.
use Rattle.std.specs.Prelude.{ℕ, zero, suc, ◌+◌, ◌*◌, ◌/◌, ◌%◌, ◌^◌}

-- the state that a draw leaves
unfoldable pub next_state : ℕ → ℕ
next_state state = (1103515245 * state + 12345) % 2 ^ 31

-- the state that so many draws leave
abbrev pub state_after : ℕ → ℕ → ℕ
state_after state zero = state
state_after state (suc draws) = next_state (state_after state draws)

-- what a draw below a limit gives
abbrev pub drawn : ℕ → ℕ → ℕ
drawn limit state = (next_state state / 65536) % limit
