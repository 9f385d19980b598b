use Rattle.std.proofs.Common.{◌≡◌, rules, tests}
use Rattle.std.specs.List.{position}
use Rattle.std.proofs.lemmas.Iterator.{YieldsList-from_slice}
use Rattle.std.proofs.lemmas.Iterator.Search.{position_from_yields_List}
use Rattle.books.specs.Slots.{numbered}
use Rattle.books.proofs.Held.{found_number, found_in_force}
use Rattle.books.proofs.slots.slot_of.Goals as goal

pub returns : goal.returns
returns c =
    let value : c.position.result ≡ position (numbered c.args.number) c.args.slots.now =
    position_from_yields_List (numbered c.args.number) _ _ c.position.result c.position.ensures.ran (YieldsList-from_slice c.args.slots.now cc) (λ x b q k. search (rules, tests)) in
    let finds = found_number c.args.slots.now c.args.number c.position.result value in
    record { value = value; finds = finds; whether = found_in_force c.args.slots.now c.args.number c.position.result finds }
