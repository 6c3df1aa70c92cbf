-- The path quantifiers: where a formula holds on some path, its negation does not on each, and the other way round.
use Rattle.kripke.specs.declared.quantifier.Quantifier.{Quantifier}
use Rattle.kripke.specs.declared.quantifier.Quantifier.TheVariants.{Exists, ForAll}

abbrev pub dual : Quantifier → Quantifier
dual Exists = ForAll
dual ForAll = Exists
