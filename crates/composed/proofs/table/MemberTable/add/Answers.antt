use Rattle.std.proofs.Common.{length, ap, ◌∙◌, sym, arith}
use Rattle.std.proofs.lemmas.List.{take_more_set, length_push, length-take-le}
use Rattle.members.proofs.Turns.{new_there, new_put}
use Rattle.composed.specs.Table.{listed}
use Rattle.composed.proofs.Turns.{searched}
use Rattle.composed.proofs.table.MemberTable.add.Goals as goal

pub returns-then-contains : goal.returns-then-contains
returns-then-contains c =
    let t = c.args.self.now in
    let v = c.args.v in
    let there = searched v t c.views.result.now c.contains.result c.contains.ensures.value c.views.ensures in
    new_there v (listed t) (sym c.if-contains.true ∙ there)

pub returns-then-self-eq256 : goal.returns-then-self-eq256
returns-then-self-eq256 c =
    let t = c.args.self.now in
    let v = c.args.v in
    let there = searched v t c.views.result.now c.contains.result c.contains.ensures.value c.views.ensures in
    let put = new_put v (listed t) (sym c.if-contains.false ∙ there) in
    omega (arith, ap length put, length_push (listed t) v, length-take-le t.count t.places (omega (arith, t.sized, t.counted)), c.if-self-eq256.true)

pub returns : goal.returns
returns c =
    let t = c.args.self.now in
    let v = c.args.v in
    let there = searched v t c.views.result.now c.contains.result c.contains.ensures.value c.views.ensures in
    take_more_set t.places t.count v (omega (arith, t.sized, t.counted, c.if-self-eq256.false)) ∙ new_put v (listed t) (sym c.if-contains.false ∙ there)
