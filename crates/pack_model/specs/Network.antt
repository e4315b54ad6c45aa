-- The network: the lengths of a CAN FD bus's bits. Limits are the project's own.
use Rattle.std.specs.Prelude.{◌≤◌}
use Rattle.pack_model.specs.declared.network.Network.{Network}

-- each figure of the network is in its range
pub record NetworkStands (n : Network) : Type 0 where
  pub ticks_low : 1 ≤ n.ticks_per_us
  pub ticks_high : n.ticks_per_us ≤ 1000
  pub nominal_low : 1 ≤ n.nominal_ticks
  pub nominal_high : n.nominal_ticks ≤ 10000
  pub data_low : 1 ≤ n.data_ticks
  pub data_high : n.data_ticks ≤ n.nominal_ticks
  pub first_id_high : n.first_id ≤ 1920
