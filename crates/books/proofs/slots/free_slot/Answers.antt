use Rattle.std.proofs.Common.{◌≡◌, rules, tests}
use Rattle.std.specs.List.{position}
use Rattle.std.proofs.lemmas.Iterator.{YieldsList-from_slice}
use Rattle.std.proofs.lemmas.Iterator.Search.{position_from_yields_List}
use Rattle.books.specs.Slots.{is_free}
use Rattle.books.proofs.Held.{found_free}
use Rattle.books.proofs.slots.free_slot.Goals as goal

pub returns : goal.returns
returns c =
    let value : c.position.result ≡ position is_free c.args.slots.now =
    position_from_yields_List is_free _ _ c.position.result c.position.ensures.ran (YieldsList-from_slice c.args.slots.now cc) (λ x b q k. search (rules, tests)) in
    record { value = value; finds = found_free c.args.slots.now c.position.result value }
