pub mod MethodsFound
pub mod FewArguments
