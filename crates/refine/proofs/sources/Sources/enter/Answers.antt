use Rattle.std.proofs.Common.{◌≡◌, suc, length, arith, rules}
use Rattle.refine.specs.declared.sources.Sources.{Sources}
use Rattle.refine.proofs.Turned.{entered_one, down_more, few_more, begun_more}
use Rattle.refine.proofs.sources.Sources.enter.Goals as goal

pub invariant_of-self : goal.invariant_of-self
invariant_of-self c =
    let v : Sources = c.args.self.now in
    let long : length v.last ≡ 512 = search rules in
    let is : c.len.result ≡ suc (length v.steps.items) = omega (arith, c.len.ensures.value, c.push.ensures.len) in
    record {
      down = down_more v c.push.new.self.items c.args.t c.args.s c.len.result c.requires.target long c.push.ensures.items is;
      begun = begun_more v c.push.new.self.items c.args.t c.args.s c.len.result c.requires.target long c.push.ensures.items is;
      few = few_more v c.push.new.self.items c.args.t c.args.s c.len.result c.requires.target long c.push.ensures.items is c.requires.source;
    }

pub returns-clause-entered : goal.returns-clause-entered
returns-clause-entered c =
    let v : Sources = c.args.self.now in
    let long : length v.last ≡ 512 = search rules in
    let is : c.len.result ≡ suc (length v.steps.items) = omega (arith, c.len.ensures.value, c.push.ensures.len) in
    entered_one v c.push.new.self.items c.args.t c.args.s c.len.result c.requires.target long c.push.ensures.items is
