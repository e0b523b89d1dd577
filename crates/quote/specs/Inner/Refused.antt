-- The reply of a quote that refuses.
use Rattle.base.specs.declared.Refusal.{Refusal}
use Rattle.base.specs.Cases.{refused_case}
use Rattle.quote.specs.Cases.{QuoteReply, no_quote}

abbrev pub refused_quote : Refusal → QuoteReply
refused_quote f = no_quote (refused_case f)
