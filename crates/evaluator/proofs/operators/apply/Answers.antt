use Rattle.std.proofs.Common.{rules}
use Rattle.evaluator.proofs.Meanings.{true_applies, question_applies, not_applies, and_applies, or_applies, ex_applies, ax_applies, ef_applies, af_applies, eg_applies, ag_applies, eu_applies, au_applies}
use Rattle.evaluator.proofs.Rows.{both_marked, either_marked}
use Rattle.evaluator.proofs.operators.apply.Goals as goal

pub returns-in-Truth : goal.returns-in-Truth
returns-in-Truth g c = true_applies _ _ (g.met.M.Model.lawful c.args.model.now) c.args.node _ _ _ (search rules) (search rules)

pub returns-in-Question : goal.returns-in-Question
returns-in-Question g c = question_applies _ _ (g.met.M.Model.lawful c.args.model.now) c.args.node _ _ _ (search rules) (search rules)

pub returns-in-Not : goal.returns-in-Not
returns-in-Not g c = not_applies _ _ (g.met.M.Model.lawful c.args.model.now) c.args.node _ _ _ (search rules) (search rules)

pub returns-in-And : goal.returns-in-And
returns-in-And g c = and_applies _ _ (g.met.M.Model.lawful c.args.model.now) c.args.node _ _ _ (search rules) (both_marked _ _ _ (λ q h. search rules))

pub returns-in-Or : goal.returns-in-Or
returns-in-Or g c = or_applies _ _ (g.met.M.Model.lawful c.args.model.now) c.args.node _ _ _ (search rules) (either_marked _ _ _ (λ q h. search rules))

pub returns-in-EX : goal.returns-in-EX
returns-in-EX g c = ex_applies _ _ (g.met.M.Model.lawful c.args.model.now) c.args.node _ _ _ (search rules) (search rules)

pub returns-in-AX : goal.returns-in-AX
returns-in-AX g c = ax_applies _ _ (g.met.M.Model.lawful c.args.model.now) c.args.node _ _ _ (search rules) (search rules)

pub returns-in-EF : goal.returns-in-EF
returns-in-EF g c = ef_applies _ _ (g.met.M.Model.lawful c.args.model.now) c.args.node _ _ _ _ c.every_state-every.ensures (search rules) (search rules)

pub returns-in-AF : goal.returns-in-AF
returns-in-AF g c = af_applies _ _ (g.met.M.Model.lawful c.args.model.now) c.args.node _ _ _ _ c.every_state-every.ensures (search rules) (search rules)

pub returns-in-EG : goal.returns-in-EG
returns-in-EG g c = eg_applies _ _ (g.met.M.Model.lawful c.args.model.now) c.args.node _ _ _ (search rules) (search rules)

pub returns-in-AG : goal.returns-in-AG
returns-in-AG g c = ag_applies _ _ (g.met.M.Model.lawful c.args.model.now) c.args.node _ _ _ (search rules) (search rules)

pub returns-in-EU : goal.returns-in-EU
returns-in-EU g c = eu_applies _ _ (g.met.M.Model.lawful c.args.model.now) c.args.node _ _ _ (search rules) (search rules)

pub returns-in-AU : goal.returns-in-AU
returns-in-AU g c = au_applies _ _ (g.met.M.Model.lawful c.args.model.now) c.args.node _ _ _ (search rules) (search rules)
