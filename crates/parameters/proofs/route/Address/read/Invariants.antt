-- The addresses read so far are the bytes before those unread, of which there are six for each address to come.
use Rattle.std.proofs.Common.{◌≡◌, ◌+◌, ◌*◌, ◌++◌, length, take}
use Rattle.std.specs.List.{flat_map}
use Rattle.parameters.specs.Routes.{address_bytes}
use Rattle.parameters.proofs.route.Address.read.Given as goal

abbrev pub invariant-loop-address : goal.invariant-loop-address
invariant-loop-address l =
    record {
      room : length l.unread + 6 * l.address-index ≡ 6 * length l.address-items;
      bytes : flat_map address_bytes (take l.address-index l.address-items) ++ l.unread ≡ l.bytes;
    }
