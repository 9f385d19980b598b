use Rattle.std.proofs.Common.{◌≡◌, [], ◌∷◌, get_or, Ok, Err, sym, ap, ◌∙◌, subst}
use Rattle.chart.specs.declared.state.Chart.{Chart}
use Rattle.chart.specs.Charts.{layout}
use Rattle.rules.specs.declared.view.RuleRecord.{RuleRecord}
use Rattle.policy.specs.Same.{Same}
use Rattle.policy.specs.Books.{entry_answer, rules_after}
use Rattle.books.specs.Slots.{held, exact_fits}
use Rattle.books.specs.Sealed.{entered_from}
use Rattle.books.proofs.Entering.{entered_formed, entered_apart, entered_stop, entered_on, entered_done}
use Rattle.books.proofs.sealed.SealedList.check.Goals as goal

pub loop-record-init : goal.loop-record-init
loop-record-init c =
    let l = layout c.args.chart.now in
    (c.new-book.ensures.chart, ap (λ rules. entered_from l rules c.args.records.now) c.new-book.ensures.rules)

pub returns-in-Err : goal.returns-in-Err
returns-in-Err c =
    let records = c.args.records.now in
    let l = layout c.args.chart.now in
    let i = c.loop-record.record-index in
    let none : RuleRecord = record { number = 0; view = record { server = 0; attributes = record { bits = 0 }; path = record { bits = 0 } } } in
    let rules = held c.loop-record.book.slots in
    let e = c.in-Err.refusal in
    let no_entry : Err e ≡ entry_answer l exact_fits rules (get_or records i none) =
    c.in-Err.ensures.answer ∙ ap (λ (ch : Chart). entry_answer (layout ch) exact_fits rules (get_or records i none)) c.loop-record.invariant.0 in
    record {
      answer = sym (sym c.loop-record.invariant.1 ∙ entered_stop l rules records i none c.loop-record-test.true e no_entry);
      distinct = tt;
      formed = tt;
    }

pub loop-record-preserved : goal.loop-record-preserved
loop-record-preserved c =
    let records = c.args.records.now in
    let l = layout c.args.chart.now in
    let i = c.loop-record.record-index in
    let none : RuleRecord = record { number = 0; view = record { server = 0; attributes = record { bits = 0 }; path = record { bits = 0 } } } in
    let rules = held c.loop-record.book.slots in
    let r = get_or records i none in
    let was : Ok tt ≡ entry_answer (layout c.loop-record.book.chart) exact_fits rules r = c.in_default.ensures.answer in
    let yes_entry : Ok tt ≡ entry_answer l exact_fits rules r = was ∙ ap (λ (ch : Chart). entry_answer (layout ch) exact_fits rules r) c.loop-record.invariant.0 in
    let same : Same (held c.enter.new.self.slots) (rules_after (entry_answer (layout c.loop-record.book.chart) exact_fits rules r) rules (r ∷ rules)) = c.in_default.ensures.after in (
      c.in_default.ensures.chart ∙ c.loop-record.invariant.0,
      entered_on l rules records i none c.loop-record-test.true (held c.enter.new.self.slots) yes_entry
          (subst (λ a. Same (held c.enter.new.self.slots) (rules_after a rules (r ∷ rules))) (sym was) same)
          ∙ c.loop-record.invariant.1,
    )

pub returns : goal.returns
returns c =
    let records = c.args.records.now in
    let l = layout c.args.chart.now in
    let ok = sym c.loop-record.invariant.1 ∙ entered_done l (held c.loop-record.book.slots) records c.loop-record.record-index c.loop-record-test.false in
    record { answer = sym ok; distinct = entered_apart l [] records ok; formed = entered_formed l [] records ok }
