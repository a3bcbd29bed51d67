-- `close_all` meets its contract: the first chairs are closed. Assumes nothing.
use borrow.Author.Rules.{rules}
use mathlib.Core.Path.{◌≡◌, refl, ap, ◌∙◌}
use mathlib.Core.List.{List, ◌++◌}
use native.Mathlib.Omega.{arith}
use native.Mathlib.Numerals.{add-one}
use lib.ListN.{length, set, get_or, take, drop, length-take}
use lib.Seq.{get_or-take}
use Rattle.chairs.specs.Chairs.{no_chair, closed_of}
use Rattle.chairs.proofs.Laws.{unread, read_any, close_to, close_at, close_step, close_done}
use Rattle.chairs.proofs.Above.{above_close}
use Rattle.chairs.specs.declared.Chair.{Chair}
use Rattle.chairs.proofs.seats.close_all.Goals as goal

pub loop-i-init : goal.loop-i-init
loop-i-init c = refl

pub closed-requires : goal.closed-requires
closed-requires c =
    let i = c.loop-i.i in
    let cs = c.args.cs in
    let n = c.args.seats in
    let ps = c.args.paid in
    let size = length-take n cs in
    let lc : length cs ≡ 10 = search rules in
    let same = close_at i (take n cs) ps unread ∙ get_or-take n cs i unread (omega (arith, size)) ∙ read_any cs i unread no_chair (omega (arith, size)) in
    let e = ap (λ (l : List Chair). (get_or l i unread).stack) c.loop-i.invariant ∙ ap (λ (d : Chair). d.stack) same in
    omega (arith, e, c.requires.2 i)

pub loop-i-preserved : goal.loop-i-preserved
loop-i-preserved c =
    let ps = c.args.paid in
    let i = c.loop-i.i in
    let ds = c.loop-i.c-items in
    let seats = take c.args.seats c.args.cs in
    let size = length-take c.args.seats c.args.cs in
    let lc : length c.args.cs ≡ 10 = search rules in
    let lp : length ps ≡ 10 = search rules in
    let at = ap (λ (l : List Chair). get_or l i unread) c.loop-i.invariant ∙ close_at i seats ps unread in
    rw add-one (
    ap (λ (d : Chair). set ds i d) (c.closed.ensures ∙ ap (λ (d : Chair). closed_of d (get_or ps i 0)) at)
    ∙ ap (λ (l : List Chair). set l i (closed_of (get_or seats i unread) (get_or ps i 0))) c.loop-i.invariant
    ∙ close_step i seats ps unread (omega arith) (omega (arith, size)))

pub returns : goal.returns
returns c =
    let cs = c.args.cs in
    let ps = c.args.paid in
    let n = c.args.seats in
    let e : c.loop-i.i ≡ length (take n cs) = omega arith in
    ap (λ (l : List Chair). l ++ drop n cs) (c.loop-i.invariant ∙ ap (λ k. close_to k (take n cs) ps) e ∙ close_done (take n cs) ps)
    ∙ above_close n cs ps c.requires.0.above c.requires.1
