pub mod Contras
pub mod Payments
pub mod ContraLaws
pub mod PaymentLaws
